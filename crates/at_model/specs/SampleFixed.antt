-- A small language with constants: in each program stands the same declaration of what isn't declared, and in each use the same type.
use Rattle.std.specs.Prelude.{ℕ, List, [], ◌∷◌, Some, None}
use lib.Chars.{codes}
use Rattle.at_model.specs.Classes.{Classes, Component, Shape, One, Many, Token}
use Rattle.at_model.specs.Classes as token
use Rattle.at_model.specs.Trees.{Tree, Cell, Text, Holds, to_cells, to_trees}
use Rattle.at_model.specs.Trees as node
use Rattle.at_model.specs.Terms.{Term}
use Rattle.at_model.specs.Terms as term
use Rattle.at_model.specs.Samples.{class, component}

-- a component in which this stands
abbrev pub constant : List ℕ → Shape → Cell → Component
constant name shape cell = record { name = name; shape = shape; fixed = Some cell }

abbrev pub any_type : Tree
any_type = node.Node 3 (to_cells [])

abbrev pub unknown : Tree
unknown = node.Node 2 (to_cells (Holds (Text (codes "?")) ∷ node.One any_type ∷ []))

-- the classes are 0 Program, 1 Use, 2 Decl, 3 Type
abbrev pub constant_classes : Classes
constant_classes =
    class (codes "Program") None (constant (codes "unknown") (One 2) (node.One unknown) ∷ component (codes "Use") (Many 1) ∷ []) ∷
    class (codes "Use") None (component (codes "Name") (Token token.Text) ∷ constant (codes "type") (One 3) (node.One any_type) ∷ []) ∷
    class (codes "Decl") None (component (codes "Name") (Token token.Text) ∷ component (codes "Type") (One 3) ∷ []) ∷
    class (codes "Type") None [] ∷ []

-- a program of one use, as it is written, and as it stands with its constants
abbrev pub name_term : Term
name_term = term.Node (codes "Use") (term.cell (term.Holds (Text (codes "a"))) term.no_cells)

abbrev pub use_term : Term
use_term = term.Node (codes "Program") (term.cell (term.Many (term.term name_term term.no_terms)) term.no_cells)

abbrev pub use_with : Tree → Tree
use_with type = node.Node 1 (to_cells (Holds (Text (codes "a")) ∷ node.One type ∷ []))

abbrev pub program_with : (unknown type : Tree) → Tree
program_with unknown type = node.Node 0 (to_cells (node.One unknown ∷ node.Many (to_trees (use_with type ∷ [])) ∷ []))

abbrev pub use_tree : Tree
use_tree = program_with unknown any_type
