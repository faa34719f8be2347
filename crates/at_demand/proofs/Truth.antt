-- What a question has come to holds.
use Rattle.std.proofs.Common.{◌≡◌, ℕ, [], nat_eq, None, refl}
use Rattle.at_model.specs.Run.{Value, Instance, Contents, Known}
use Rattle.at_model.specs.Follow.{follow}
use Rattle.at_model.specs.Rules.{Rules, evaluation, start_of}
use Rattle.at_model.specs.of_fixpoints.Fixpoints.{HasValue}
use Rattle.at_body.specs.Values.{value_view}
use Rattle.at_body.specs.Rest.{reached, resumed}
use Rattle.at_body.specs.declared.value.Value.{Value as ValueCode}
use Rattle.at_body.specs.declared.trial.Step.{Step}
use Rattle.at_body.specs.declared.trial.Step.TheVariants as step
use Rattle.at_body.specs.declared.trial.Trial.{Trial}
use Rattle.at_evaluate.specs.Valued.{equations, meaning}
use Rattle.at_demand.specs.UnderWay.{HasStepped, IsOpen}
use Rattle.at_demand.proofs.Coming.{begins, goes_on}
use Rattle.at_demand.proofs.of_levels.Plain.{has_value}

-- an evaluation at its end needs nothing
pub open_end : (known : Known ℕ) (s : Step) → ((j : Instance ℕ) → s ≡ step.Need j → ⊥) → IsOpen known s
open_end known (step.Value v) h = tt
open_end known (step.Fault f) h = tt
open_end known (step.Need j) h = absurd (h j refl)

module _ (rules : Rules) (look : Contents ℕ) where
  pub started : (i : Instance ℕ) (t : Trial) (s : Step) → follow look [] (evaluation rules nat_eq i) ≡ (reached rules.classes s t, t.reads) → HasStepped rules look i t s
  started i t s e = begins look (HasValue look (meaning rules)) (equations rules i) (reached rules.classes s t) t.reads e

  pub resumed_step : (i j : Instance ℕ) (t u : Trial) (v : Value ℕ) (s : Step) → HasStepped rules look i t (step.Need j) → HasValue look (meaning rules) j v → follow look t.reads (resumed rules.classes t v) ≡ (reached rules.classes s u, u.reads) → HasStepped rules look i u s
  resumed_step i j t u v s (js, past) h e = goes_on look (HasValue look (meaning rules)) (equations rules i) j (resumed rules.classes t) v js t.reads u.reads (reached rules.classes s u) past h e

  pub value_of : (i : Instance ℕ) (t : Trial) (v : ValueCode) → start_of rules i.attribute ≡ None → HasStepped rules look i t (step.Value v) → HasValue look (meaning rules) i (value_view v)
  value_of i t v none (js, past) = has_value rules look i none (value_view v) js t.reads past
