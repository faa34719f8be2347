-- What the trees and cells that are made stand for.
use Rattle.std.proofs.Common.{◌≡◌, ◌∙◌, ℕ, map, ap, sym}
use Rattle.std.specs.Prelude.{Vec}
use Rattle.std.specs.Global.{Global}
use Rattle.at_model.specs.Trees.{Tree, Cell, Node, Empty, Filled, to_cells}
use Rattle.at_model.specs.Terms.{Term, Cell as ModelCell, One}
use Rattle.at_tree.specs.View.{see_term, see_cell as see_term_cell, term_view, cell_view as term_cell_view}
use Rattle.at_tree.specs.declared.term.Term.{Term as TermValue}
use Rattle.at_tree.specs.declared.term.TermCell.TheOpen.{TermCell-F}
use Rattle.at_tree.specs.declared.term.TermCell.TheVariants as written
use Rattle.at_tree.specs.declared.term.TermCell.TheFolds.{fold-roll-TermCell}
use Rattle.at_class.specs.TreeView.{see_tree, see_cell, tree_view, cell_view}
use Rattle.at_class.specs.declared.tree.Tree.{Tree as TreeValue}
use Rattle.at_class.specs.declared.tree.Cell.{Cell as CellValue}
use Rattle.at_class.specs.declared.tree.Cell.TheOpen.{Cell-F}
use Rattle.at_class.specs.declared.tree.Cell.TheViews.{roll-Tree}
use Rattle.at_class.specs.declared.tree.Cell.TheVariants as value
use Rattle.at_class.specs.declared.tree.Cell.TheFolds.{fold-roll-Tree, fold-roll-Cell}

pub made_tree : (c : ℕ) (cells : Vec CellValue Global) → tree_view (roll-Tree (record { class = c; cells = cells })) ≡ Node c (to_cells (map cell_view cells.items))
made_tree c cells = fold-roll-Tree Cell Tree see_cell see_tree (record { class = c; cells = cells })

pub made_empty : cell_view value.Empty ≡ Empty
made_empty = ap cell_view (sym value.rolls-Empty) ∙ fold-roll-Cell Cell Tree see_cell see_tree Cell-F.Empty

pub made_filled : (u : TreeValue) → cell_view (value.Filled u) ≡ Filled (tree_view u)
made_filled u = ap cell_view (sym (value.rolls-Filled u)) ∙ fold-roll-Cell Cell Tree see_cell see_tree (Cell-F.Filled u)

pub term_one : (t : TermValue) → term_cell_view (written.One t) ≡ One (term_view t)
term_one t = ap term_cell_view (sym (written.rolls-One t)) ∙ fold-roll-TermCell ModelCell Term see_term_cell see_term (TermCell-F.One t)
