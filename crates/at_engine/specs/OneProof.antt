-- Facts that have one proof at most, so that a value may carry them.
use Rattle.std.specs.Prelude.{ℕ, ℤ, pos, negsuc, List, Option, Some, None, IfSome}
use Rattle.std.proofs.Props.{props}
use Rattle.at_model.specs.Classes.{AreSound, Classes, IsShapeWithin, Many, Maybe, One, Shape}
use Rattle.at_model.specs.Classes as class
use Rattle.at_model.specs.SyntaxTrees.{Token, Text, Int, Truth, Tree, Node as Branch, Cells, no_cells, cell, Cell, Trees, no_trees, tree, IsToken, AreTokens, CellsAreTokens, CellIsTokens, TreesAreTokens}
use Rattle.at_model.specs.SyntaxTrees as held
use Rattle.at_model.specs.Paths.{Node}
use Rattle.at_engine.specs.Marks.{AreThere, Mark}

pub within_prop : (n : ℕ) (shape : Shape) → IsProp (IsShapeWithin n shape)
within_prop n (One c) = Prim.hlevel props
within_prop n (Many c) = Prim.hlevel props
within_prop n (Maybe c) = Prim.hlevel props
within_prop n (class.Token kind) = Prim.hlevel props

token_prop : (v : Token) → IsProp (IsToken v)
token_prop (Text bytes) = Prim.hlevel props
token_prop (Int (pos n)) = Prim.hlevel props
token_prop (Int (negsuc n)) = Prim.hlevel props
token_prop (Truth b) = Prim.hlevel props

mutual
  tree_prop : (t : Tree) → IsProp (AreTokens t)
  tree_prop (Branch c cells) = cells_prop cells

  cells_prop : (cs : Cells) → IsProp (CellsAreTokens cs)
  cells_prop no_cells = Prim.hlevel props
  cells_prop (cell c cs) = Prim.hlevel (cell_prop c, cells_prop cs, props)

  pub cell_prop : (c : Cell) → IsProp (CellIsTokens c)
  cell_prop (held.One t) = tree_prop t
  cell_prop (held.Many ts) = trees_prop ts
  cell_prop held.Empty = Prim.hlevel props
  cell_prop (held.Filled t) = tree_prop t
  cell_prop (held.Holds v) = token_prop v

  trees_prop : (ts : Trees) → IsProp (TreesAreTokens ts)
  trees_prop no_trees = Prim.hlevel props
  trees_prop (tree t ts) = Prim.hlevel (tree_prop t, trees_prop ts, props)

pub fixed_prop : (o : Option Cell) → IsProp (IfSome o CellIsTokens)
fixed_prop None = Prim.hlevel props
fixed_prop (Some c) = cell_prop c

pub classes_prop : (classes : Classes) → IsProp (AreSound classes)
classes_prop classes = Prim.hlevel (within_prop, fixed_prop, props)

pub there_prop : (look : ℕ → Option Node) (marks : List Mark) → IsProp (AreThere look marks)
there_prop look marks = Prim.hlevel props
