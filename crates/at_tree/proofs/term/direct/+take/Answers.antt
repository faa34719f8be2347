use Rattle.std.proofs.Common.{◌∙◌, [], ◌∷◌, ◌++◌, ap, sym, arith, map, refl, subst}
use Rattle.std.proofs.lemmas.List.{map-append}
use Rattle.at_model.specs.Terms.{IsCellWithin, cell_text, term_text}
use Rattle.at_tree.specs.View.{term_view, cell_view}
use Rattle.at_tree.proofs.TermFrontsLemmas.{HasCells, HasList, all_cells, all_terms, first_one, first_term, made_term, no_cell, no_term, one_more, one_term_more, shorter, term_front}
use Rattle.at_tree.proofs.term.direct.+take.Goals as goal

pub take_term-returns : goal.take_term-returns
take_term-returns t c =
    term_front c.args.front.now.rest.now c.take_name.new.front.rest.now c.take_cells.new.front.rest.now _ c.args.levels (map cell_view c.in_ok-cells.cells.items) _ (omega (arith, c.if-levels-eq0.false)) c.in_ok-name.ensures.named c.in_ok-name.ensures.taken c.in_ok-cells.ensures
    (made_term c.in_ok-name.name c.in_ok-cells.cells)

pub take_cells-returns-then-takes : goal.take_cells-returns-then-takes
take_cells-returns-then-takes t c = no_cell c.args.front.now.rest.now c.takes.new.front.rest.now c.args.levels _ (c.takes.ensures.taken c.if-takes.true) (ap (map cell_view) c.new.ensures.items)

pub take_cells-loop-alloc-init : goal.take_cells-loop-alloc-init
take_cells-loop-alloc-init t c =
    let pushed = ap (map cell_view) (c.in_ok-push.ensures.items ∙ ap (λ cs. cs ++ c.in_ok-first.first ∷ []) c.in_ok-cells.ensures.items) in
    first_one cell_text (IsCellWithin c.args.levels) c.args.front.now.rest.now _ _ (cell_view c.in_ok-first.first) (sym (c.takes.ensures.stays c.if-takes.false) ∙ c.in_ok-first.ensures.0) c.in_ok-first.ensures.1 pushed

pub take_cells-loop-alloc-preserved : goal.take_cells-loop-alloc-preserved
take_cells-loop-alloc-preserved t c =
    let pushed = ap (map cell_view) c.in_ok-push-2.ensures.items ∙ map-append cell_view c.loop-alloc.cells.items (c.in_ok-cell.cell ∷ []) in
    subst (HasCells c.args.front.now.rest.now _ c.args.levels) (sym pushed)
    (one_more cell_text (IsCellWithin c.args.levels) c.args.front.now.rest.now c.loop-alloc.front.rest.now _ _ (map cell_view c.loop-alloc.cells.items) (cell_view c.in_ok-cell.cell) c.loop-alloc.invariant (c.loop-alloc-test.ensures.taken refl) c.in_ok-cell.ensures.0 c.in_ok-cell.ensures.1)

pub take_cells-loop-alloc-smaller : goal.take_cells-loop-alloc-smaller
take_cells-loop-alloc-smaller t c = shorter c.loop-alloc.front.rest.now _ _ (cell_text (cell_view c.in_ok-cell.cell)) (c.loop-alloc-test.ensures.taken refl) c.in_ok-cell.ensures.0

pub take_cells-returns : goal.take_cells-returns
take_cells-returns t c = all_cells c.args.front.now.rest.now c.loop-alloc.front.rest.now _ c.args.levels (map cell_view c.loop-alloc.cells.items) c.loop-alloc.invariant (sym (c.loop-alloc-test.ensures.stays refl) ∙ c.in_ok-take.ensures)

pub take_list-returns-then-takes : goal.take_list-returns-then-takes
take_list-returns-then-takes t c = no_term c.args.front.now.rest.now c.take.new.front.rest.now c.takes.new.front.rest.now c.args.levels _ c.in_ok-take.ensures (c.takes.ensures.taken c.if-takes.true) (ap (map term_view) c.new-terms.ensures.items)

pub take_list-loop-alloc-init : goal.take_list-loop-alloc-init
take_list-loop-alloc-init t c =
    let pushed = ap (map term_view) (c.in_ok-push.ensures.items ∙ ap (λ ts. ts ++ c.in_ok-first.first ∷ []) c.new-terms.ensures.items) in
    first_term c.args.front.now.rest.now c.takes.new.front.rest.now _ c.args.levels _ (term_view c.in_ok-first.first) (c.in_ok-take.ensures ∙ ap (λ ys. 91 ∷ ys) (sym (c.takes.ensures.stays c.if-takes.false))) c.in_ok-first.ensures pushed

pub take_list-loop-alloc-preserved : goal.take_list-loop-alloc-preserved
take_list-loop-alloc-preserved t c =
    let pushed = ap (map term_view) c.in_ok-push-2.ensures.items ∙ map-append term_view c.loop-alloc.terms.items (c.in_ok-term.term ∷ []) in
    subst (HasList c.args.front.now.rest.now _ c.args.levels) (sym pushed)
    (one_term_more c.args.front.now.rest.now c.loop-alloc.front.rest.now _ _ c.args.levels (map term_view c.loop-alloc.terms.items) (term_view c.in_ok-term.term) c.loop-alloc.invariant (c.loop-alloc-test.ensures.taken refl) c.in_ok-term.ensures)

pub take_list-loop-alloc-smaller : goal.take_list-loop-alloc-smaller
take_list-loop-alloc-smaller t c = shorter c.loop-alloc.front.rest.now _ _ (term_text (term_view c.in_ok-term.term)) (c.loop-alloc-test.ensures.taken refl) c.in_ok-term.ensures.0

pub take_list-returns : goal.take_list-returns
take_list-returns t c = all_terms c.args.front.now.rest.now c.loop-alloc.front.rest.now _ c.args.levels (map term_view c.loop-alloc.terms.items) c.loop-alloc.invariant (sym (c.loop-alloc-test.ensures.stays refl) ∙ c.in_ok-take-2.ensures)
