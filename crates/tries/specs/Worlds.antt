-- What holds of a world, and of the values that are named in it and known.
use Rattle.std.specs.Prelude.{ℕ, Some, IsSome, option_map, ⊤}
use Rattle.std.specs.List.{AllByRecursion}
use Rattle.std.specs.Map.{lookup}
use Rattle.at_model.specs.Instances.{AnyText}
use Rattle.at_model.specs.Rules.{Kind}
use Rattle.at_model.specs.Run.{Value, Ref, Nodes, Instance, Known}
use Rattle.at_model.specs.TypedRuns.{ClassAt, IsOfKind, IsOfItsKind, IsWellTyped}
use Rattle.at_model.specs.WellFormed.{AreWellFormed, IsTreeSound}
use Rattle.at_store.specs.Shown.{IsIdle, tree}
use Rattle.at_body.specs.Same.{same_instance}
use Rattle.at_body.specs.Typed.{AreOfTheirKinds, class_shown}
use Rattle.at_body.specs.Values.{value_view}
use Rattle.tries.specs.declared.files.World.{World}
use Rattle.tries.specs.declared.known.Values.{Values}

-- no edit waits, the rules are well formed, and the tree is sound over their classes
pub record IsSound (w : World) : Type 0 where
  pub idle : IsIdle w.store
  pub formed : AreWellFormed w.rules
  pub sound : IsTreeSound w.rules.classes (tree w.store)

-- the classes of its nodes
abbrev pub classes_at : World → ClassAt ℕ
classes_at w = class_shown w.store

-- the nodes to which the value refers, where it refers to any, are there
abbrev pub RefersThere : World → Value ℕ → Type 0
RefersThere w (Ref (Some n)) = IsSome (classes_at w n)
RefersThere w (Nodes ns) = AllByRecursion (λ n. IsSome (classes_at w n)) ns
RefersThere w v = ⊤

-- the value is of the kind
abbrev pub IsOf : World → Kind → Value ℕ → Type 0
IsOf w k v = IsOfKind w.rules.classes (classes_at w) v k

-- the instance is well typed
abbrev pub IsTyped : World → Instance ℕ → Type 0
IsTyped w i = IsWellTyped w.rules (classes_at w) AnyText i

-- the value is of the kind of the instance's attribute
abbrev pub IsFor : World → Instance ℕ → Value ℕ → Type 0
IsFor w i v = IsOfItsKind w.rules (classes_at w) i v

-- which value is known
abbrev pub known_in : Values → Known ℕ
known_in k i = option_map value_view (lookup (same_instance i) k.values.entries)

-- what is known is of the kinds of the world
abbrev pub AreSound : World → Values → Type 0
AreSound w k = AreOfTheirKinds w.rules (classes_at w) (known_in k)
