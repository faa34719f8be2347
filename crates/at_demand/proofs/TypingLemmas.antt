-- A question under way keeps to the kinds of its values.
use Rattle.std.proofs.Common.{ℕ}
use Rattle.at_model.specs.Run.{Value, Instance}
use Rattle.at_model.specs.Rules.{Rules}
use Rattle.at_model.specs.WellFormed.{AreWellFormed, IsTreeSound}
use Rattle.at_model.specs.of_fixpoints.FormKinds.{AreBoolean}
use Rattle.at_model.specs.of_fixpoints.Fixpoints.{HasValue}
use Rattle.at_store.specs.Shown.{IsIdle, Shown, contents, tree}
use Rattle.at_body.specs.Typed as trial
use Rattle.at_body.specs.declared.trial.Trial.{Trial}
use Rattle.at_body.proofs.of_typing.TypedUses.{told}
use Rattle.at_evaluate.specs.Valued.{meaning}
use Rattle.at_demand.proofs.TypedKnown.{known_typed}

pub told_value : (rules : Rules) → AreWellFormed rules → AreBoolean rules → (s : Shown) → IsIdle s → IsTreeSound rules.classes (tree s) → (t : Trial) (j : Instance ℕ) (v : Value ℕ) →
    trial.WaitsFor rules (trial.class_shown s) t j → HasValue (contents s) (meaning rules) j v → trial.Takes rules (trial.class_shown s) t v
told_value rules formed boolean s idle sound t j v waits has = told rules (trial.class_shown s) t j v waits (known_typed rules formed boolean s idle sound j v waits.instance has)
