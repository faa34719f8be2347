use Rattle.std.proofs.Common.{map, ap, sym, subst, take, take_all, ◌∙◌, ◌++◌, ◌∷◌, []}
use Rattle.std.proofs.lemmas.List.{map_more, map-append}
use Rattle.at_model.specs.Trees.{Cell, Tree, Node}
use Rattle.at_model.specs.SyntaxTrees.{CellsAreTokens, TreesAreTokens, to_cells, to_trees}
use Rattle.at_class.specs.TreeView.{cell_view, tree_view, see_cell, see_tree}
use Rattle.at_class.specs.declared.tree.Cell.TheFolds.{fold-roll-Tree, fold_out-Tree}
use Rattle.at_class.proofs.TreesMade.{cells_more, trees_more}
use Rattle.at_class.proofs.tree.+written.Goals as goal

pub Tree::written-loop-cell-preserved : goal.Tree::written-loop-cell-preserved
Tree::written-loop-cell-preserved t c =
    let xs = c.loop-cell.cells.items in
    let from = c.deref-cell-items.result.now in
    let i = c.loop-cell.cell-index in
    let v = c.in_ok-written.field-0 in
    let e = ap (map cell_view) c.in_ok-push.ensures.items ∙ map-append cell_view xs (v ∷ []) in (
      e ∙ (λ j. c.loop-cell.invariant.0 j ++ c.in_ok-written.ensures.same j ∷ []) ∙ ap (λ y. map cell_view (take i from) ++ cell_view y ∷ []) c.cell-item.is
          ∙ sym (map_more cell_view from i c.cell-item.result c.loop-cell-test.true),
      subst (λ ys. CellsAreTokens (to_cells ys)) (sym e) (cells_more (map cell_view xs) (cell_view v) c.loop-cell.invariant.1 c.in_ok-written.ensures.tokens),
    )

pub Tree::written-returns-clause-same : goal.Tree::written-returns-clause-same
Tree::written-returns-clause-same t c =
    fold-roll-Tree Cell Tree see_cell see_tree _
    ∙ ap (λ cs. Node c.args.self.now.class (to_cells cs)) (c.loop-cell.invariant.0 ∙ ap (map cell_view) (take_all c.loop-cell.cell-index c.deref-cell-items.result.now c.loop-cell-test.false ∙ c.deref-cell-items.ensures.value))
    ∙ sym (fold_out-Tree Cell Tree see_cell see_tree c.args.self.now)

pub written::all_written-loop-tree-preserved : goal.written::all_written-loop-tree-preserved
written::all_written-loop-tree-preserved t c =
    let xs = c.loop-tree.copies.items in
    let from = c.args.trees.now in
    let i = c.loop-tree.tree-index in
    let v = c.in_ok-written.field-0 in
    let e = ap (map tree_view) c.in_ok-push.ensures.items ∙ map-append tree_view xs (v ∷ []) in (
      e ∙ (λ j. c.loop-tree.invariant.0 j ++ c.in_ok-written.ensures.same j ∷ []) ∙ ap (λ y. map tree_view (take i from) ++ tree_view y ∷ []) c.tree-item.is
          ∙ sym (map_more tree_view from i c.tree-item.result c.loop-tree-test.true),
      subst (λ ys. TreesAreTokens (to_trees ys)) (sym e) (trees_more (map tree_view xs) (tree_view v) c.loop-tree.invariant.1 c.in_ok-written.ensures.tokens),
    )
