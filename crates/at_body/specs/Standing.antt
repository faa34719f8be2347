-- Where an expression stands.
use Rattle.std.specs.Prelude.{ℕ, List, [], ◌∷◌, Option, Some, map}
use Rattle.at_model.specs.Run.{Value, Ref}
use Rattle.at_model.specs.Bodies.{Scope}
use Rattle.at_body.specs.Stacked.{below}
use Rattle.at_body.specs.Values.{value_view}
use Rattle.at_body.specs.declared.value.Value.{Value as ValueCode}

-- `this`, the nodes bound by folds, the innermost first, what was passed, and the child on the way down
pub record Place : Type 0 where
  pub this : ℕ
  pub bound : List ℕ
  pub passed : List ValueCode
  pub child : Option ℕ

-- the bound nodes and then what was passed
abbrev pub names : List ℕ → List (Value ℕ) → List (Value ℕ)
names [] vs = vs
names (n ∷ ns) vs = Ref (Some n) ∷ names ns vs

abbrev pub scope : Place → Scope ℕ
scope p = record { this = p.this; names = names p.bound (map value_view p.passed); child = p.child }

-- the node that was bound last
abbrev pub innermost : List ℕ → ℕ
innermost [] = 0
innermost (n ∷ ns) = n

-- without the node that was bound last
abbrev pub outside : Place → Place
outside p = record p { bound = below p.bound }

-- inside a fold, at this node
abbrev pub inside : Place → ℕ → Place
inside p n = record p { bound = n ∷ p.bound }
