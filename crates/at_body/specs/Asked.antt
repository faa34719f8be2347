-- What may be asked for.
use Rattle.std.specs.Prelude.{ℕ}
use Rattle.at_model.specs.Instances.{AnyText}
use Rattle.at_model.specs.Rules.{Rules}
use Rattle.at_model.specs.Run.{Instance}
use Rattle.at_model.specs.TypedRuns.{IsWellTyped}
use Rattle.at_model.specs.WellFormed.{AreWellFormed, IsTreeSound}
use Rattle.at_store.specs.Shown.{Shown, IsIdle, tree}
use Rattle.at_body.specs.Typed.{class_shown}

-- no edit waits, the rules are well formed, the tree is sound, and the instance is a well-typed one of the tree
pub record MayBeAsked (rules : Rules) (s : Shown) (i : Instance ℕ) : Type 0 where
  pub idle : IsIdle s
  pub formed : AreWellFormed rules
  pub sound : IsTreeSound rules.classes (tree s)
  pub typed : IsWellTyped rules (class_shown s) AnyText i
