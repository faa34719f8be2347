-- What has a value leads to what has values: where no attribute is circular, and with well-formed rules.
use Rattle.std.proofs.Common.{inl, inr, sym, subst}
use Rattle.at_model.specs.Paths.{Node, node_eq}
use Rattle.at_model.specs.Run.{Value, Instance, Contents}
use Rattle.at_model.specs.Rules.{Rules}
use Rattle.at_model.specs.Meaning.{Equations, Finds, content, equations}
use Rattle.at_model.specs.Asking.{IsWellFormed}
use Rattle.at_model.specs.Machine.{State, IsSound}
use Rattle.at_model.specs.Sparing.{SpreadsValues}
use Rattle.at_model.specs.of_fixpoints.Evaluations.{forms}
use Rattle.at_model.specs.of_fixpoints.Fixpoints.{HasValue}
use Rattle.at_model.specs.of_fixpoints.Formulas.{Forms}
use Rattle.at_model.specs.of_fixpoints.Resting.{Leads, stays, goes}
use Rattle.at_model.specs.of_fixpoints.Sets.{plain_forms}
use Rattle.at_model.proofs.Spreading.{led_valued}
use Rattle.at_model.proofs.of_typing.TypedTogether.{state_sound}
use Rattle.at_model.proofs.of_formulas.FormulasTogether.{demanded, spread}
use Rattle.at_model.proofs.of_formulas.PlainAnswers.{leads_off}
use Rattle.at_model.proofs.of_formulas.PlainForms.{holds_back_all, holds_on_all}
use Rattle.at_model.proofs.of_formulas.PlainRules.{rules_plain}

-- one leads to another one, and that to a third
pub leads_further : {N : Type 0} (look : Contents N) (forms : Forms N) (i j k : Instance N) → Leads look forms i j →
    Leads look forms j k → Leads look forms i k
leads_further look forms _ _ k (stays i) l = l
leads_further look forms _ j k (goes i m _ c r) l = goes i m k c (leads_further look forms m j k r l)

plain_spread : {N : Type 0} (look : Contents N) (equation : Equations N) (i j : Instance N) (v : Value N) →
    HasValue look (plain_forms equation) i v → Leads look (plain_forms equation) i j →
    (w : Value N) × HasValue look (plain_forms equation) j w
plain_spread look equation i j v h l =
    let (w, g) = led_valued look equation i j v (holds_back_all look equation i (Finds v) h)
    (leads_off look equation i j l) in (w, holds_on_all look equation j (Finds w) g)

-- what a well-formed question leads to, where that has a value
pub values_spread : (rules : Rules) (s : State) → IsSound rules.classes s → SpreadsValues rules s.tree →
    (q i j : Instance Node) (v : Value Node) → IsWellFormed rules s.tree q → Leads (content s.tree) (forms rules) q i →
    HasValue (content s.tree) (forms rules) i v → Leads (content s.tree) (forms rules) i j →
    (w : Value Node) × HasValue (content s.tree) (forms rules) j w
values_spread rules s sound (inl none) q i j v formed reached h l =
    subst (λ (z : Forms Node). HasValue (content s.tree) z i v → Leads (content s.tree) z i j →
    (w : Value Node) × HasValue (content s.tree) z j w) (sym (rules_plain rules node_eq none))
    (plain_spread (content s.tree) (equations rules) i j v) h l
values_spread rules s sound (inr (ok, tokens)) q i j v formed reached h l =
    let whole = state_sound rules.classes s sound tokens in
    spread rules ok s.tree whole i j v (demanded rules ok s.tree whole q formed i reached) h l
