-- What the steps of an evaluation come to.
use Rattle.std.specs.Prelude.{◌≡◌, ℕ, List, [], None}
use Rattle.at_model.specs.Run.{Instance}
use Rattle.at_model.specs.Rules.{Rules, start_of}
use Rattle.at_store.specs.Shown.{Shown, contents}
use Rattle.at_body.specs.Typed.{IsTypedStep, class_shown}
use Rattle.at_body.specs.declared.trial.Step.{Step}
use Rattle.at_cache.specs.Kept.{Entries}
use Rattle.at_demand.specs.declared.evaluation.Find.{Find}
use Rattle.at_demand.specs.declared.evaluation.Frame.{Frame}
use Rattle.at_demand.specs.Known.{known_in}
use Rattle.at_evaluate.specs.Valued.{AreValued}
use Rattle.at_demand.specs.UnderWay.{HasStepped, IsOpen}
use Rattle.at_demand.specs.Covering.{HasPassedTo}
use Rattle.at_demand.specs.Only.{TakesOnly}

-- The evaluation of an instance has gone on from one step to another, over what is kept and what was found: to its end, or to an
-- instance that isn't known.
pub record HasGoneOn (rules : Rules) (s : Shown) (entries : Entries) (found : List (Instance ℕ × Find)) (old : Frame) (before : Step)
    (new : Frame) (after : Step) : Type 0 where
  pub kept : AreValued entries new.demanded.kept.items
  pub stepped : (i : Instance ℕ) → HasStepped rules (contents s) i old.trial before → HasStepped rules (contents s) i new.trial after
  pub passed : (i : Instance ℕ) → HasPassedTo rules (contents s) found i old before → HasPassedTo rules (contents s) found i new after
  pub only : (i : Instance ℕ) → start_of rules i.attribute ≡ None → HasStepped rules (contents s) i old.trial before
      → TakesOnly rules (contents s) found i old.demanded → TakesOnly rules (contents s) found i new.demanded
  pub typed : IsTypedStep rules (class_shown s) after new.trial
  pub unknown : IsOpen (known_in entries found) after

-- The evaluation of an instance has begun, and has come to this step by itself.
pub record HasBegun (rules : Rules) (s : Shown) (i : Instance ℕ) (new : Frame) (step : Step) : Type 0 where
  pub fresh : new.demanded.kept.items ≡ []
  pub unfound : new.demanded.finds.items ≡ []
  pub stepped : HasStepped rules (contents s) i new.trial step
  pub passed : (finds : List (Instance ℕ × Find)) → HasPassedTo rules (contents s) finds i new step
  pub typed : IsTypedStep rules (class_shown s) step new.trial
