-- Well-formed rules, and sound trees: those over which evaluations keep to the kinds.
use Rattle.std.specs.Prelude.{◌≡◌, ℕ, ◌<◌, true, false, nat_eq, length, IfSome}
use Rattle.std.specs.List.{list_any}
use Rattle.at_model.specs.Classes.{Classes, parent_of}
use Rattle.at_model.specs.Declarations.{above}
use Rattle.at_model.specs.Trees.{Tree, conforms}
use Rattle.at_model.specs.Edits.{is_within_limits}
use Rattle.at_model.specs.Enduring.{AreTokens}
use Rattle.at_model.specs.Rules.{Rules, AreComplete}
use Rattle.at_model.specs.Kinds.{AreTyped}

-- each superclass is there, and no class is above itself
pub record IsHierarchy (classes : Classes) : Type 0 where
  pub parents : (c : ℕ) → IfSome (parent_of classes c) (λ b. b < length classes)
  pub no_circle : (c : ℕ) → c < length classes → list_any (nat_eq c) (above classes c) ≡ false

-- the classes are a hierarchy, each equation has the kind of its attribute, and no equation is missing
pub record AreWellFormed (rules : Rules) : Type 0 where
  pub hierarchy : IsHierarchy rules.classes
  pub typed : AreTyped rules
  pub complete : AreComplete rules

-- the tree conforms to the start class, is within the limits, and its tokens can be written
pub record IsTreeSound (classes : Classes) (t : Tree) : Type 0 where
  pub conform : conforms classes t 0 ≡ true
  pub within : is_within_limits t ≡ true
  pub tokens : AreTokens t
