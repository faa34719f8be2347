-- Which syntax trees conform to the classes, and how large they are.
use Rattle.std.specs.Prelude.{ℕ, ◌+◌, max, Bool, true, false, ◌&&◌, List, [], ◌∷◌, Some, None}
use Rattle.at_model.specs.Classes.{Classes, Component, Shape, TokenKind, fits, parts}
use Rattle.at_model.specs.Classes as class
pub use Rattle.at_model.specs.SyntaxTrees.{Token, Text, Int, Truth, Tree, Node, Cells, no_cells, cell, Cell, One, Many, Empty, Filled, Holds, Trees, no_trees, tree, class_of, cells_of, to_cells, from_cells, to_trees, from_trees, children}
use Rattle.at_model.specs.SyntaxTrees.{cell_eq}

-- the token is of the kind
abbrev pub is_of_kind : Token → TokenKind → Bool
is_of_kind (Text bytes) class.Text = true
is_of_kind (Int n) class.Int = true
is_of_kind (Truth b) class.Truth = true
is_of_kind v kind = false

-- in each component that is fixed stands what is fixed there
abbrev pub fixed_stand : List Component → Cells → Bool
fixed_stand [] cs = true
fixed_stand (p ∷ ps) no_cells = true
fixed_stand (p ∷ ps) (cell c cs) = elim p.fixed [ None ↦ true | Some d ↦ cell_eq d c ] && fixed_stand ps cs

-- The class of the tree fits the one asked, its cells are one for each component, each of the component's shape and
-- kind, all trees in them conform, and in fixed components stands what is fixed there.
abbrev mutual
  pub conforms : Classes → Tree → ℕ → Bool
  conforms classes (Node c cells) b = fits classes c b && (cells_conform classes cells (parts classes c) && fixed_stand (parts classes c) cells)

  pub cells_conform : Classes → Cells → List Component → Bool
  cells_conform classes no_cells [] = true
  cells_conform classes no_cells (p ∷ ps) = false
  cells_conform classes (cell c cs) [] = false
  cells_conform classes (cell c cs) (p ∷ ps) = cell_conforms classes c p.shape && cells_conform classes cs ps

  pub cell_conforms : Classes → Cell → Shape → Bool
  cell_conforms classes (One t) (class.One b) = conforms classes t b
  cell_conforms classes (Many ts) (class.Many b) = trees_conform classes ts b
  cell_conforms classes Empty (class.Maybe b) = true
  cell_conforms classes (Filled t) (class.Maybe b) = conforms classes t b
  cell_conforms classes (Holds v) (class.Token kind) = is_of_kind v kind
  cell_conforms classes c shape = false

  pub trees_conform : Classes → Trees → ℕ → Bool
  trees_conform classes no_trees b = true
  trees_conform classes (tree t ts) b = conforms classes t b && trees_conform classes ts b

-- how many nodes a tree has
abbrev mutual
  pub nodes : Tree → ℕ
  nodes (Node c cells) = 1 + cells_nodes cells

  pub cells_nodes : Cells → ℕ
  cells_nodes no_cells = 0
  cells_nodes (cell c cs) = cell_nodes c + cells_nodes cs

  pub cell_nodes : Cell → ℕ
  cell_nodes (One t) = nodes t
  cell_nodes (Many ts) = trees_nodes ts
  cell_nodes Empty = 0
  cell_nodes (Filled t) = nodes t
  cell_nodes (Holds v) = 0

  pub trees_nodes : Trees → ℕ
  trees_nodes no_trees = 0
  trees_nodes (tree t ts) = nodes t + trees_nodes ts

-- the most nodes on a way down: a root alone has depth 1
abbrev mutual
  pub depth : Tree → ℕ
  depth (Node c cells) = 1 + cells_depth cells

  pub cells_depth : Cells → ℕ
  cells_depth no_cells = 0
  cells_depth (cell c cs) = max (cell_depth c) (cells_depth cs)

  pub cell_depth : Cell → ℕ
  cell_depth (One t) = depth t
  cell_depth (Many ts) = trees_depth ts
  cell_depth Empty = 0
  cell_depth (Filled t) = depth t
  cell_depth (Holds v) = 0

  pub trees_depth : Trees → ℕ
  trees_depth no_trees = 0
  trees_depth (tree t ts) = max (depth t) (trees_depth ts)
