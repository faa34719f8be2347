use Rattle.std.proofs.Common.{◌+◌, ◌∙◌, [], ◌∷◌, ◌++◌, ap, sym, arith, map, refl, subst}
use Rattle.std.specs.Option.{option_map}
use Rattle.std.proofs.lemmas.List.{map-append}
use Rattle.at_class.specs.View.{part_view}
use Rattle.at_model.specs.Classes.{Many, Maybe}
use Rattle.at_model.specs.Trees as tree
use Rattle.at_model.specs.Trees.{Cell, to_cells, to_trees}
use Rattle.at_class.specs.TreeView.{tree_view, cell_view}
use Rattle.at_tree.specs.Fronts.{IsCellFront}
use Rattle.at_tree.proofs.Made.{made_tree, made_empty, made_filled}
use Rattle.at_tree.proofs.FrontsLemmas.{tree_front, HasCells, HasTrees, has_none, one_fixed_more, one_cell_more, all_cells, empty_list, first_tree, one_tree_more, whole_list, shorter}
use Rattle.at_tree.proofs.tree.direct.+take.Goals as goal

pub take_tree-returns-clause-front : goal.take_tree-returns-clause-front
take_tree-returns-clause-front t c =
    tree_front c.args.classes.now c.args.front.now.rest.now c.take_class.new.front.rest.now c.take_cells.new.front.rest.now c.args.under c.in_ok-class.class c.args.levels (map part_view c.parts.result.now)
    (to_cells (map cell_view c.in_ok-cells.cells.items)) _ (omega (arith, c.if-levels-eq0.false)) c.in_ok-class.ensures.named c.in_ok-class.ensures.fits c.in_ok-class.ensures.taken c.parts.ensures c.in_ok-cells.ensures
    (made_tree c.in_ok-class.class c.in_ok-cells.cells)

pub take_cells-loop-part-init : goal.take_cells-loop-part-init
take_cells-loop-part-init t c = has_none c.args.classes.now c.args.front.now.rest.now (map part_view c.args.parts.now) c.args.levels _ (ap (map cell_view) c.in_ok-cells.ensures.items)

pub take_cells-loop-part-preserved-in-Some : goal.take_cells-loop-part-preserved-in-Some
take_cells-loop-part-preserved-in-Some t c =
    let classes = c.args.classes.now in
    let ps = map part_view c.args.parts.now in
    let pushed = ap (map cell_view) c.in_ok-push.ensures.items ∙ map-append cell_view c.loop-part.cells.items (c.in_ok-plant.field-0 ∷ []) in
    subst (HasCells classes c.args.front.now.rest.now c.loop-part.front.rest.now ps c.args.levels (c.loop-part.part-index + 1) c.loop-part.taken) (sym pushed)
    (one_fixed_more classes c.args.front.now.rest.now c.loop-part.front.rest.now c.args.parts.now c.args.levels c.loop-part.part-index c.loop-part.taken (map cell_view c.loop-part.cells.items)
    c.part-item.result (cell_view c.in-Some.fixed) (cell_view c.in_ok-plant.field-0) (omega arith) c.part-item.is (ap (option_map cell_view) c.in-Some.is)
    c.loop-part.invariant c.in_ok-plant.ensures.fits c.in_ok-plant.ensures.same)

pub take_cells-loop-part-preserved : goal.take_cells-loop-part-preserved
take_cells-loop-part-preserved t c =
    let classes = c.args.classes.now in
    let ps = map part_view c.args.parts.now in
    let pushed = ap (map cell_view) {y = c.loop-part.cells.items ++ c.in_ok-cell.cell ∷ []} c.in_ok-push-2.ensures.items ∙ map-append cell_view c.loop-part.cells.items (c.in_ok-cell.cell ∷ []) in
    subst (HasCells classes c.args.front.now.rest.now c.take_cell.new.front.rest.now ps c.args.levels (c.loop-part.part-index + 1) (c.loop-part.taken + 1)) (sym pushed)
    (one_cell_more classes c.args.front.now.rest.now c.loop-part.front.rest.now c.take_separator.new.front.rest.now c.take_cell.new.front.rest.now c.args.parts.now c.args.levels c.loop-part.part-index c.loop-part.taken
    (map cell_view c.loop-part.cells.items) c.part-item.result (cell_view c.in_ok-cell.cell) (omega arith) c.part-item.is (ap (option_map cell_view) c.in_default.is)
    c.loop-part.invariant c.in_ok-take_separator.ensures c.in_ok-cell.ensures)

pub take_cells-returns : goal.take_cells-returns
take_cells-returns t c =
    all_cells c.args.classes.now c.args.front.now.rest.now c.loop-part.front.rest.now c.take.new.front.rest.now c.args.parts.now c.args.levels c.loop-part.part-index c.loop-part.taken
    (map cell_view c.loop-part.cells.items) c.loop-part-test.false c.loop-part.invariant c.in_ok-take.ensures

pub take_optional-returns-then-takes : goal.take_optional-returns-then-takes
take_optional-returns-then-takes t c =
    subst (λ (x : Cell). IsCellFront c.args.classes.now c.args.front.now.rest.now c.takes.new.front.rest.now (Maybe c.args.under) c.args.levels x) (sym made_empty) (c.takes.ensures.taken c.if-takes.true, refl, tt)

pub take_optional-returns : goal.take_optional-returns
take_optional-returns t c =
    let (text, whole, within) = c.in_ok-tree.ensures.front in
    subst (λ (x : Cell). IsCellFront c.args.classes.now c.args.front.now.rest.now c.take_tree.new.front.rest.now (Maybe c.args.under) c.args.levels x) (sym (made_filled c.in_ok-tree.tree)) (sym (c.takes.ensures.stays c.if-takes.false) ∙ text, whole, within)

pub take_list-returns-then-takes : goal.take_list-returns-then-takes
take_list-returns-then-takes t c =
    empty_list c.args.classes.now c.args.front.now.rest.now c.take.new.front.rest.now c.takes.new.front.rest.now c.args.under c.args.levels _ c.in_ok-take.ensures (c.takes.ensures.taken c.if-takes.true) (ap (map tree_view) c.new-trees.ensures.items)

pub take_list-loop-alloc-init : goal.take_list-loop-alloc-init
take_list-loop-alloc-init t c =
    let pushed = ap (map tree_view) (c.in_ok-push.ensures.items ∙ ap (λ ts. ts ++ c.in_ok-first.first ∷ []) c.new-trees.ensures.items) in
    first_tree c.args.classes.now c.args.front.now.rest.now c.takes.new.front.rest.now _ c.args.under c.args.levels _ (tree_view c.in_ok-first.first)
    (c.in_ok-take.ensures ∙ ap (λ ys. 91 ∷ ys) (sym (c.takes.ensures.stays c.if-takes.false))) c.in_ok-first.ensures.front pushed

pub take_list-loop-alloc-preserved : goal.take_list-loop-alloc-preserved
take_list-loop-alloc-preserved t c =
    let pushed = ap (map tree_view) c.in_ok-push-2.ensures.items ∙ map-append tree_view c.loop-alloc.trees.items (c.in_ok-tree.tree ∷ []) in
    subst (HasTrees c.args.classes.now c.args.front.now.rest.now _ c.args.under c.args.levels) (sym pushed)
    (one_tree_more c.args.classes.now c.args.front.now.rest.now c.loop-alloc.front.rest.now _ _ c.args.under c.args.levels (map tree_view c.loop-alloc.trees.items) (tree_view c.in_ok-tree.tree) c.loop-alloc.invariant
    (c.loop-alloc-test.ensures.taken refl) c.in_ok-tree.ensures.front)

pub take_list-loop-alloc-smaller : goal.take_list-loop-alloc-smaller
take_list-loop-alloc-smaller t c = shorter c.args.classes.now c.loop-alloc.front.rest.now _ _ c.args.under c.args.levels (tree_view c.in_ok-tree.tree) (c.loop-alloc-test.ensures.taken refl) c.in_ok-tree.ensures.front

pub take_list-returns : goal.take_list-returns
take_list-returns t c =
    subst (λ ts. IsCellFront c.args.classes.now c.args.front.now.rest.now c.take-2.new.front.rest.now (Many c.args.under) c.args.levels (tree.Many (to_trees ts)))
    (sym (ap (map tree_view) c.shrink_to_fit.ensures.items))
    (whole_list c.args.classes.now c.args.front.now.rest.now c.loop-alloc.front.rest.now _ c.args.under c.args.levels (map tree_view c.loop-alloc.trees.items) c.loop-alloc.invariant
    (sym (c.loop-alloc-test.ensures.stays refl) ∙ c.in_ok-take-2.ensures))
