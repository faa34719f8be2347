-- What a tree stands for.
use Rattle.at_model.specs.Trees.{Tree, Node, Cell, One, Many, Empty, Filled, Holds, to_cells, to_trees}
use Rattle.at_class.specs.Token.{token_view}
use Rattle.at_class.specs.declared.tree.Tree.{Tree as TreeValue}
use Rattle.at_class.specs.declared.tree.Cell.{Cell as CellValue}
use Rattle.at_class.specs.declared.tree.Cell.TheOpen.{Cell-F, Tree-F}
use Rattle.at_class.specs.declared.tree.Cell.TheFolds.{fold-Tree, fold-Cell}

-- one level, with the trees and cells inside already seen
abbrev pub see_tree : Tree-F Cell Tree → Tree
see_tree t = Node t.class (to_cells t.cells.items)

abbrev pub see_cell : Cell-F Cell Tree → Cell
see_cell (Cell-F.One t) = One t
see_cell (Cell-F.Many ts) = Many (to_trees ts.items)
see_cell Cell-F.Empty = Empty
see_cell (Cell-F.Filled t) = Filled t
see_cell (Cell-F.Tok v) = Holds (token_view v)

abbrev pub tree_view : TreeValue → Tree
tree_view = fold-Tree Cell Tree see_cell see_tree

abbrev pub cell_view : CellValue → Cell
cell_view = fold-Cell Cell Tree see_cell see_tree
