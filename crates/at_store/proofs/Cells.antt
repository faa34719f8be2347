-- What a cell that is given stands for.
use Rattle.std.proofs.Common.{◌≡◌, ◌∙◌, map, ap, sym}
use Rattle.std.specs.Prelude.{Vec}
use Rattle.std.specs.Global.{Global}
use Rattle.at_model.specs.Trees.{Tree, Cell, One, Many, Holds, to_trees}
use Rattle.at_tree.specs.Token.{token_view}
use Rattle.at_tree.specs.TreeView.{see_tree, see_cell, tree_view, cell_view}
use Rattle.at_class.specs.declared.token.TokVal.{TokVal}
use Rattle.at_class.specs.declared.tree.Tree.{Tree as TreeValue}
use Rattle.at_class.specs.declared.tree.Cell.TheOpen.{Cell-F}
use Rattle.at_class.specs.declared.tree.Cell.TheVariants as value
use Rattle.at_class.specs.declared.tree.Cell.TheFolds.{fold-roll-Cell}

pub made_one : (t : TreeValue) → cell_view (value.One t) ≡ One (tree_view t)
made_one t = ap cell_view (sym (value.rolls-One t)) ∙ fold-roll-Cell Cell Tree see_cell see_tree (Cell-F.One t)

pub made_many : (ts : Vec TreeValue Global) → cell_view (value.Many ts) ≡ Many (to_trees (map tree_view ts.items))
made_many ts = ap cell_view (sym (value.rolls-Many ts)) ∙ fold-roll-Cell Cell Tree see_cell see_tree (Cell-F.Many ts)

pub made_token : (v : TokVal) → cell_view (value.Tok v) ≡ Holds (token_view v)
made_token v = ap cell_view (sym (value.rolls-Tok v)) ∙ fold-roll-Cell Cell Tree see_cell see_tree (Cell-F.Tok v)
