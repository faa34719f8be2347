-- An equation that fails has come to what is met alone.
use Rattle.std.proofs.Common.{◌≡◌, ℕ, List, inl, inr, refl}
use Rattle.at_model.specs.Follow.{Past}
use Rattle.at_model.specs.Rules.{Rules}
use Rattle.at_model.specs.Run.{Fails, FaultKind, Instance, Location, Contents}
use Rattle.at_model.specs.of_fixpoints.Fixpoints.{EndsSo, HasValue, Made, Spoilt}
use Rattle.at_model.proofs.of_searching.PassedCircles.{ends_one}
use Rattle.at_cache.specs.Kept.{Entries}
use Rattle.at_demand.specs.declared.evaluation.Demanded.{Demanded}
use Rattle.at_demand.specs.declared.evaluation.Find.{Find}
use Rattle.at_demand.specs.Covering.{IsDemanded, IsTold}
use Rattle.at_evaluate.specs.Valued.{AreValued, meaning}
use Rattle.at_demand.specs.Turns.{HasMetAll, IsMet}
use Rattle.at_evaluate.proofs.Entered.{entered}
use Rattle.at_demand.proofs.Gaining.{is_kept}
use Rattle.at_demand.proofs.Passing.{past_has, past_more}
use Rattle.at_demand.proofs.Seeing.{comes_failed}

-- what was demanded is met
pub met_demanded : (entries : Entries) (found : List (Instance ℕ × Find)) (d : Demanded) → AreValued entries d.kept.items → (j : Instance ℕ) →
    IsDemanded found d j → IsMet entries found j
met_demanded entries found d kept j (inl a) = inl (entered entries j (is_kept entries d.kept.items j kept a))
met_demanded entries found d kept j (inr (p, g, a, is)) = inr (p, g, is)

pub failed_met : (rules : Rules) (look : Contents ℕ) (entries : Entries) (found : List (Instance ℕ × Find)) (i : Instance ℕ) (d : Demanded) →
    AreValued entries d.kept.items → (k : FaultKind) → EndsSo look (meaning rules) i (Spoilt k i) → (js : List (Instance ℕ)) (ls : List (Location ℕ)) →
    Past look (IsTold rules look found d) ((meaning rules).formula i) js ls (Fails k) → HasMetAll rules look entries found i
failed_met rules look entries found i d kept k ends js ls past j (inr (f, form, a)) =
    let same : Made f ≡ Spoilt k i = ends_one look (meaning rules) i (Made f) (Spoilt k i) form ends in absurd cc
failed_met rules look entries found i d kept k ends js ls past j (inl reach) =
    let has = IsTold rules look found d in
    let run = (meaning rules).formula i in
    let holds = past_more look has (HasValue look (meaning rules)) (λ m v t. t.0) run (Fails k) js ls past in
    let a = comes_failed look (meaning rules) run (Fails k) k js ls j refl holds reach in
    let (w, t) = past_has look has run (Fails k) js ls j past a in
    met_demanded entries found d kept j t.1
