use Rattle.std.proofs.Common.{◌+◌, ◌≤◌, ◌∙◌, [], ◌∷◌, ap, sym, arith, length, map, Some}
use Rattle.std.specs.Option.{option_map}
use Rattle.std.proofs.lemmas.List.{map-append}
use Rattle.std.proofs.lemmas.Result.{err_from_is_err_and}
use Rattle.at_class.specs.View.{part_view, shape_view}
use Rattle.at_model.specs.Classes.{class_of_name, Maybe}
use Rattle.at_model.specs.Trees.{Node, Filled}
use Rattle.at_model.specs.Shaping.{cell_shaped, shaped}
use Rattle.at_class.specs.TreeView.{tree_view, cell_view}
use Rattle.at_tree.specs.Shape.{parts_shaped}
use Rattle.at_tree.specs.View.{term_view, to_cells, cell_view as term_cell_view}
use Rattle.at_tree.proofs.Made.{made_tree, made_filled, term_one}
use Rattle.at_tree.proofs.Shaping.{parts_from, fixed_from-more, fixed_from-none, written_from-more, written_from-none, parts_from-short, parts_from-long, parts_from-end, trees_from, trees_from-more, trees_from-end, shaped-whole, onto_cells, onto_trees, unfit_when}
use Rattle.at_tree.proofs.tree.shaping.+shape.Goals as goal

pub shape_cell-returns-in_ok-shape_tree-in-One-Maybe-clause-found : goal.shape_cell-returns-in_ok-shape_tree-in-One-Maybe-clause-found
shape_cell-returns-in_ok-shape_tree-in-One-Maybe-clause-found t c =
    ap (λ s. cell_shaped c.args.classes.now (term_cell_view c.args.cell.now) (shape_view s)) c.in-One-Maybe.is-1
    ∙ ap (λ x. cell_shaped c.args.classes.now (term_cell_view x) (Maybe c.in-One-Maybe.class)) c.in-One-Maybe.is-0
    ∙ ap (λ x. cell_shaped c.args.classes.now x (Maybe c.in-One-Maybe.class)) (term_one c.in-One-Maybe.term)
    ∙ ap (option_map Filled) c.in_ok-shape_tree-in-One-Maybe.ensures.found
    ∙ ap Some (sym (made_filled c.in_ok-shape_tree-in-One-Maybe.field-0))

pub shape_list-loop-term-preserved : goal.shape_list-loop-term-preserved
shape_list-loop-term-preserved t c =
    trees_from-more c.args.classes.now c.args.terms.now c.args.under c.loop-term.term-index c.term-item.result (map tree_view c.loop-term.trees.items) (tree_view c.in_ok-shape_tree.field-0) _ (omega arith) c.term-item.is
    c.in_ok-shape_tree.ensures.found c.loop-term.invariant
    ∙ ap (λ us. option_map (onto_trees us) (trees_from c.args.classes.now c.args.terms.now c.args.under (c.loop-term.term-index + 1)))
    (sym (ap (map tree_view) c.in_ok-push.ensures.items ∙ map-append tree_view c.loop-term.trees.items (c.in_ok-shape_tree.field-0 ∷ [])))

pub shape_list-returns-clause-found : goal.shape_list-returns-clause-found
shape_list-returns-clause-found t c =
    trees_from-end c.args.classes.now c.args.terms.now c.args.under c.loop-term.term-index (map tree_view c.loop-term.trees.items) _ c.loop-term-test.false c.loop-term.invariant

pub shape_tree-returns-in_err-cells-clause-refused : goal.shape_tree-returns-in_err-cells-clause-refused
shape_tree-returns-in_err-cells-clause-refused t c =
    let classes = c.args.classes.now in
    let named = ap (class_of_name classes) (sym c.as_str.ensures.value) ∙ sym c.id_of.ensures.found ∙ c.in-Some.is in
    let whole = shaped-whole classes c.args.term.now c.args.under c.in-Some.class c.deref.result.now c.parts.result.now c.deref.ensures.value named c.parts.ensures (sym c.fits.ensures.fits ∙ c.if-not-fits.false) in
    let p = err_from_is_err_and c.from_residual.result c.from_residual.ensures.1 in
    rw (p.1, p.2) (unfit_when _ (shaped classes (term_view c.args.term.now) c.args.under) _ (λ none. whole ∙ ap (option_map (Node c.in-Some.class)) none) c.in_err-cells.ensures.refused)

pub shape_tree-returns-clause-found : goal.shape_tree-returns-clause-found
shape_tree-returns-clause-found t c =
    let classes = c.args.classes.now in
    let named = ap (class_of_name classes) (sym c.as_str.ensures.value) ∙ sym c.id_of.ensures.found ∙ c.in-Some.is in
    let whole = shaped-whole classes c.args.term.now c.args.under c.in-Some.class c.deref.result.now c.parts.result.now c.deref.ensures.value named c.parts.ensures (sym c.fits.ensures.fits ∙ c.if-not-fits.false) in
    whole ∙ ap (option_map (Node c.in-Some.class)) c.in_ok-cells.ensures.found ∙ ap Some (sym (made_tree c.in-Some.class c.in_ok-cells.cells))

pub shape_cells-loop-part-preserved-in-Some : goal.shape_cells-loop-part-preserved-in-Some
shape_cells-loop-part-preserved-in-Some t c =
    let classes = c.args.classes.now in
    let xs = c.args.written.now in
    let ps = c.args.parts.now in
    let k = c.loop-part.taken in
    let i = c.loop-part.part-index in
    let done = map cell_view c.loop-part.cells.items in
    let pushed = ap (map cell_view) c.in_ok-push.ensures.items ∙ map-append cell_view c.loop-part.cells.items (c.in_ok-plant.field-0 ∷ []) in (
      fixed_from-more classes xs ps k i c.part-item.result (cell_view c.in-Some.fixed) done (cell_view c.in_ok-plant.field-0) _ (omega arith) c.part-item.is (ap (option_map cell_view) c.in-Some.is)
          c.in_ok-plant.ensures.found c.loop-part.invariant.0
          ∙ ap (λ us. option_map (onto_cells us) (parts_from classes xs ps k (i + 1))) (sym pushed),
      omega (arith, c.loop-part.invariant.1),
    )

pub shape_cells-loop-part-preserved : goal.shape_cells-loop-part-preserved
shape_cells-loop-part-preserved t c =
    let classes = c.args.classes.now in
    let xs = c.args.written.now in
    let ps = c.args.parts.now in
    let k = c.loop-part.taken in
    let i = c.loop-part.part-index in
    let done = map cell_view c.loop-part.cells.items in
    let pushed = ap (map cell_view) c.in_ok-push-2.ensures.items ∙ map-append cell_view c.loop-part.cells.items (c.in_ok-shape_cell.field-0 ∷ []) in (
      written_from-more classes xs ps k i c.index-written-taken.result c.part-item.result done (cell_view c.in_ok-shape_cell.field-0) _ c.if-taken-written.false (omega arith) c.index-written-taken.is c.part-item.is
          (ap (option_map cell_view) c.in_default.is) c.in_ok-shape_cell.ensures.found c.loop-part.invariant.0
          ∙ ap (λ us. option_map (onto_cells us) (parts_from classes xs ps (k + 1) (i + 1))) (sym pushed),
      omega (arith, c.loop-part.invariant.1),
    )

pub shape_cells-returns-then-taken-written-2-clause-refused : goal.shape_cells-returns-then-taken-written-2-clause-refused
shape_cells-returns-then-taken-written-2-clause-refused t c =
    parts_from-long c.args.classes.now c.args.written.now c.args.parts.now c.loop-part.taken c.loop-part.part-index (map cell_view c.loop-part.cells.items) _
    c.if-taken-written-2.true c.loop-part-test.false c.loop-part.invariant.0

pub shape_cells-returns-clause-found : goal.shape_cells-returns-clause-found
shape_cells-returns-clause-found t c =
    parts_from-end c.args.classes.now c.args.written.now c.args.parts.now c.loop-part.taken c.loop-part.part-index (map cell_view c.loop-part.cells.items) _
    c.if-taken-written-2.false c.loop-part-test.false c.loop-part.invariant.0

pub shape_cells-returns-in_err-plant-clause-refused : goal.shape_cells-returns-in_err-plant-clause-refused
shape_cells-returns-in_err-plant-clause-refused t c =
    let classes = c.args.classes.now in
    let p = err_from_is_err_and c.from_residual-in_err-plant.result c.from_residual-in_err-plant.ensures.1 in
    rw (p.1, p.2) (unfit_when _ (parts_shaped classes (to_cells (map term_cell_view c.args.written.now)) (map part_view c.args.parts.now)) _
    (λ none. fixed_from-none classes c.args.written.now c.args.parts.now c.loop-part.taken c.loop-part.part-index c.part-item.result (cell_view c.in-Some.fixed) (map cell_view c.loop-part.cells.items) _
    (omega arith) c.part-item.is (ap (option_map cell_view) c.in-Some.is) none c.loop-part.invariant.0)
    c.in_err-plant.ensures.refused)

pub shape_cells-returns-then-taken-written-clause-refused : goal.shape_cells-returns-then-taken-written-clause-refused
shape_cells-returns-then-taken-written-clause-refused t c =
    parts_from-short c.args.classes.now c.args.written.now c.args.parts.now c.loop-part.taken c.loop-part.part-index c.part-item.result (map cell_view c.loop-part.cells.items) _
    c.if-taken-written.true (omega arith) c.part-item.is (ap (option_map cell_view) c.in_default.is) c.loop-part.invariant.0

pub shape_cells-returns-in_err-shape_cell-clause-refused : goal.shape_cells-returns-in_err-shape_cell-clause-refused
shape_cells-returns-in_err-shape_cell-clause-refused t c =
    let classes = c.args.classes.now in
    let p = err_from_is_err_and c.from_residual-in_err-shape_cell.result c.from_residual-in_err-shape_cell.ensures.1 in
    rw (p.1, p.2) (unfit_when _ (parts_shaped classes (to_cells (map term_cell_view c.args.written.now)) (map part_view c.args.parts.now)) _
    (λ none. written_from-none classes c.args.written.now c.args.parts.now c.loop-part.taken c.loop-part.part-index c.index-written-taken.result c.part-item.result (map cell_view c.loop-part.cells.items) _
    c.if-taken-written.false (omega arith) c.index-written-taken.is c.part-item.is (ap (option_map cell_view) c.in_default.is) none c.loop-part.invariant.0)
    c.in_err-shape_cell.ensures.refused)
