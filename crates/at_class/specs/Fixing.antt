-- Components that are fixed: what constant nonterminal attributes make of the classes of a grammar.
use Rattle.std.specs.Prelude.{ℕ, List, [], ◌∷◌, Some}
use Rattle.at_model.specs.Classes.{Classes, Class, Component}
use Rattle.at_model.specs.SyntaxTrees.{Cell, CellIsTokens}
use Rattle.at_model.specs.Edits.{changed_at}
use Rattle.at_class.specs.TreeView.{cell_view}
use Rattle.at_class.specs.declared.fixing.Fixed.{Fixed as FixedPart}

-- what is to stand in a component, which is known by its position among those that the class itself declares
pub record Fixed : Type 0 where
  pub class : ℕ
  pub part : ℕ
  pub cell : Cell

-- it has tokens that can be written
abbrev pub IsWritten : Fixed → Type 0
IsWritten f = CellIsTokens f.cell

abbrev pub fixed_view : FixedPart → Fixed
fixed_view f = record { class = f.class; part = f.part; cell = cell_view f.cell }

abbrev pub with_cell : Cell → Component → Component
with_cell c p = record { name = p.name; shape = p.shape; fixed = Some c }

-- the class in which that stands in that component
abbrev pub with_part : ℕ → Cell → Class → Class
with_part part c k = record { name = k.name; is_abstract = k.is_abstract; parent = k.parent; own = changed_at (with_cell c) k.own part }

-- the classes with that; where there is no such component nothing changes
abbrev pub with_fixed : Fixed → Classes → Classes
with_fixed f classes = changed_at (with_part f.part f.cell) classes f.class

-- the classes with all of that, one after the other
abbrev pub fixed_as : List Fixed → Classes → Classes
fixed_as [] classes = classes
fixed_as (f ∷ fs) classes = fixed_as fs (with_fixed f classes)
