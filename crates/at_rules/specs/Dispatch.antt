-- What is found for a class and a number on the way up from the class, and what a table of such finds holds.
use Rattle.std.specs.Prelude.{◌≡◌, ℕ, ◌-◌, ◌&&◌, nat_eq, cond, List, [], ◌∷◌, position, slice_get, Option, None, Some, option_map, option_and_then, Vec}
use Rattle.std.specs.Option.{option_or}
use Rattle.at_model.specs.Classes.{Classes, chain, parent_of}
use Rattle.at_model.specs.Bodies.{Expr}
use Rattle.at_rules.specs.Bodies.{body_view}
use Rattle.at_rules.specs.Upward.{earlier}
use Rattle.at_rules.specs.declared.body.Body.{Body}
use Rattle.at_rules.specs.declared.dispatch.Cell.{Cell}
use Rattle.at_rules.specs.declared.dispatch.Precedence.{Precedence}
use Rattle.at_rules.specs.declared.dispatch.Precedence.TheVariants.{Nearest, Earliest}

-- the position of the key of that class and number
abbrev pub key_at : List (ℕ × ℕ) → (number class : ℕ) → Option ℕ
key_at ks k c = position (λ key. nat_eq c key.0 && nat_eq k key.1) ks

-- of what a class has and what is found above it: its own before that above, or the lesser of both
abbrev pub chosen : Precedence → Option ℕ → Option ℕ → Option ℕ
chosen Nearest here above = option_or here above
chosen Earliest here above = earlier here above

-- what is found on the way up
abbrev pub found_on : Precedence → (ℕ → Option ℕ) → List ℕ → Option ℕ
found_on precedence has [] = None
found_on precedence has (c ∷ cs) = chosen precedence (has c) (found_on precedence has cs)

-- what is found for a class and a number
abbrev pub found_up : Precedence → List (ℕ × ℕ) → Classes → (class number : ℕ) → Option ℕ
found_up precedence ks classes c k = found_on precedence (key_at ks k) (chain classes c)

-- the position that a cell holds: 0 stands for none, and other numbers for the one below
abbrev pub cell_view : Cell → Option ℕ
cell_view cell = cond (nat_eq cell.0 0) None (Some (cell.0 - 1))

-- the cell of a class and a number
abbrev pub cell_at : {Z : Type 0} → List (Vec Cell Z) → (class number : ℕ) → Option Cell
cell_at rows c k = option_and_then (λ row. slice_get row.items k) (slice_get rows c)

-- the cell of the superclass, or one that holds nothing
abbrev pub above_in : {Z : Type 0} → List (Vec Cell Z) → Classes → (class number : ℕ) → Option Cell
above_in rows classes c k = elim (parent_of classes c) [ None ↦ Some (record { 0 = 0 }) | Some b ↦ cell_at rows b k ]

-- each cell of the row holds the answer for its number
abbrev pub IsRight : (ℕ → Option ℕ) → List Cell → Type 0
IsRight answer row = (k : ℕ) (cell : Cell) → slice_get row k ≡ Some cell → cell_view cell ≡ answer k

-- each cell of the table does
abbrev pub AreRight : {Z : Type 0} → (ℕ → ℕ → Option ℕ) → List (Vec Cell Z) → Type 0
AreRight answer rows = (c k : ℕ) (cell : Cell) → cell_at rows c k ≡ Some cell → cell_view cell ≡ answer c k

-- the body at a position
abbrev pub body_at : List ((ℕ × ℕ) × Body) → ℕ → Option Expr
body_at es p = option_map (λ e. body_view e.1) (slice_get es p)
