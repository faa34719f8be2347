-- Where a step that may want memory has come to.
use Rattle.std.proofs.Common.{◌≡◌, ◌∙◌, ℕ, List, Result, Ok, Err, IfOk}
use Rattle.at_model.specs.Classes.{Classes}
use Rattle.at_model.specs.Follow.{Reached}
use Rattle.at_model.specs.Run.{Location, Value}
use Rattle.at_body.specs.Rest.{reached}
use Rattle.at_body.specs.declared.trial.Step.{Step}
use Rattle.at_body.specs.declared.trial.Trial.{Trial}

pub behind_same : {E : Type 0} (res : Result Step E) (classes : Classes) (t : Trial) (x y : Reached ℕ (Value ℕ) × List (Location ℕ)) (seen : List (Location ℕ)) →
    x ≡ y → IfOk res (λ step. y ≡ (reached classes step t, seen)) → IfOk res (λ step. x ≡ (reached classes step t, seen))
behind_same (Ok step) classes t x y seen e h = e ∙ h
behind_same (Err e') classes t x y seen e h = tt
