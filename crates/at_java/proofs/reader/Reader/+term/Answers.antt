use Rattle.std.proofs.Common.{sym, ap, ◌∙◌, ◌-◌, map, arith}
use Rattle.std.proofs.lemmas.List.{map_push}
use Rattle.at_text.specs.Rows.{left}
use lib.Chars.{codes}
use Rattle.at_tree.specs.View.{cell_view, term_view}
use Rattle.at_java.specs.Read.{got}
use Rattle.at_java.specs.Tokens.{sign_here}
use Rattle.at_java.specs.Operands.{max_arguments, items}
use Rattle.at_java.specs.Constants.{argument, elements, term}
use Rattle.at_java.proofs.Exits.{found_as, fault_as, at_fault}
use Rattle.at_java.proofs.Then.{fails_as}
use Rattle.at_java.proofs.Steps.{arguments_limit}
use Rattle.at_java.proofs.Nestings.{none_made, one_made}
use Rattle.at_java.proofs.ElementLists.{one_element, element_fails, elements_end, too_many_elements}
use Rattle.at_java.proofs.Loops.{some_left, none_left, in_front, none_in_front, first_items, one_item, last_item, item_fails, comma_fails, too_many_items}
use Rattle.at_java.proofs.reader.Reader.+term.Goals as goal

-- ---- how deep they nest

pub term-returns-then-depth-eq0-clause-fault : goal.term-returns-then-depth-eq0-clause-fault
term-returns-then-depth-eq0-clause-fault t c = none_made c.args.depth _ _ (omega (arith, c.if-depth-eq0.true))

pub term-returns-clause-found : goal.term-returns-clause-found
term-returns-clause-found t c = found_as c.node.result term_view _ _ _ (one_made c.args.depth _ _ (omega (arith, c.if-depth-eq0.false))) c.node.ensures.found

pub term-returns-clause-fault : goal.term-returns-clause-fault
term-returns-clause-fault t c = fault_as c.node.result _ _ _ (one_made c.args.depth _ _ (omega (arith, c.if-depth-eq0.false))) c.node.ensures.fault

-- ---- arguments

pub cells-loop-more-init : goal.cells-loop-more-init
cells-loop-more-init t c =
    first_items (argument (term c.args.depth)) max_arguments 255 _ (left c.args.self.now.cursor.rest.now) arguments_limit (ap (map cell_view) c.new-items.ensures.items)

pub cells-loop-more-preserved : goal.cells-loop-more-preserved
cells-loop-more-preserved t c =
    let l = c.loop-more in
    let n = c.in_default.ensures in
    let more = (argument (term c.args.depth)) in
    let q = ap (map cell_view) c.in_ok-push.ensures.items ∙ map_push cell_view l.items.items c.in_ok-next.next in
    l.invariant ∙ one_item more l.more (map cell_view l.items.items) (cell_view c.in_ok-next.next) _ (left l.self.cursor.rest.now) (left c.argument.new.self.cursor.rest.now)
    (left c.expects.new.self.cursor.rest.now) (some_left l.more c.loop-more-test.true) c.in_ok-next.ensures.found n.1
    (ap (λ k. sign_here (codes ",") (left k.rest.now)) (sym n.0) ∙ c.in_ok-expects.ensures.found)
    ∙ ap (λ v. in_front v (items more (l.more - 1) (left c.expects.new.self.cursor.rest.now))) (sym q)

pub cells-returns-in_err-next-clause-fault : goal.cells-returns-in_err-next-clause-fault
cells-returns-in_err-next-clause-fault t c =
    let l = c.loop-more in
    let e = c.in_err-next.field-0.0 in
    at_fault _ e (left c.argument.new.self.cursor.rest.now) _ c.from_residual.ensures.1 (fails_as e (left c.argument.new.self.cursor.rest.now) _ _ l.invariant
    (item_fails e (argument (term c.args.depth)) l.more (map cell_view l.items.items) (left l.self.cursor.rest.now) (left c.argument.new.self.cursor.rest.now)
    (some_left l.more c.loop-more-test.true) c.in_err-next.ensures.fault))

pub cells-returns-in-Some-clause-found : goal.cells-returns-in-Some-clause-found
cells-returns-in-Some-clause-found t c =
    let l = c.loop-more in
    let q = ap (map cell_view) c.in_ok-push.ensures.items ∙ map_push cell_view l.items.items c.in_ok-next.next in
    l.invariant ∙ last_item (argument (term c.args.depth)) l.more (map cell_view l.items.items) (cell_view c.in_ok-next.next) _ (left l.self.cursor.rest.now)
    (left c.argument.new.self.cursor.rest.now) (left c.takes.new.self.cursor.rest.now) (some_left l.more c.loop-more-test.true) c.in_ok-next.ensures.found c.in-Some.ensures
    ∙ ap (λ v. got v (left c.takes.new.self.cursor.rest.now)) (sym q)

pub cells-returns-in_err-expects-clause-fault : goal.cells-returns-in_err-expects-clause-fault
cells-returns-in_err-expects-clause-fault t c =
    let l = c.loop-more in
    let n = c.in_default.ensures in
    let e = c.in_err-expects.field-0.0 in
    at_fault _ e (left c.expects.new.self.cursor.rest.now) _ c.from_residual-in_err-expects.ensures.1 (fails_as e (left c.expects.new.self.cursor.rest.now) _ _ l.invariant
    (comma_fails e (argument (term c.args.depth)) l.more (map cell_view l.items.items) (cell_view c.in_ok-next.next) (left l.self.cursor.rest.now)
    (left c.argument.new.self.cursor.rest.now) (left c.expects.new.self.cursor.rest.now) (some_left l.more c.loop-more-test.true) c.in_ok-next.ensures.found n.1
    (fails_as e (left c.expects.new.self.cursor.rest.now) _ _ (ap (λ k. sign_here (codes ",") (left k.rest.now)) (sym n.0)) c.in_err-expects.ensures.fault)))

pub cells-returns-clause-fault : goal.cells-returns-clause-fault
cells-returns-clause-fault t c =
    let l = c.loop-more in
    l.invariant ∙ too_many_items (argument (term c.args.depth)) l.more (map cell_view l.items.items) (left l.self.cursor.rest.now) (none_left l.more c.loop-more-test.false)

-- ---- elements

pub elements-loop-terms-preserved : goal.elements-loop-terms-preserved
elements-loop-terms-preserved t c =
    let l = c.loop-terms in
    let q = ap (map term_view) c.in_ok-push.ensures.items ∙ map_push term_view l.terms.items c.in_ok-term.term in
    l.invariant ∙ one_element (term c.args.depth) c.args.at l.room (map term_view l.terms.items) (term_view c.in_ok-term.term) _ _ _ _
    (omega (arith, c.if-room-eq0.false)) c.in-Some.ensures c.in_ok-term.ensures.found
    ∙ ap (λ v. in_front v (elements (term c.args.depth) c.args.at (l.room - 1) (left c.added.new.self.cursor.rest.now))) (sym q)

pub elements-returns-then-room-eq0-clause-fault : goal.elements-returns-then-room-eq0-clause-fault
elements-returns-then-room-eq0-clause-fault t c =
    let l = c.loop-terms in
    l.invariant ∙ too_many_elements (term c.args.depth) c.args.at l.room (map term_view l.terms.items) _ _ _ (omega (arith, c.if-room-eq0.true)) c.in-Some.ensures

pub elements-returns-in_err-term-clause-fault : goal.elements-returns-in_err-term-clause-fault
elements-returns-in_err-term-clause-fault t c =
    let l = c.loop-terms in
    let e = c.in_err-term.field-0.0 in
    let end = left c.added.new.self.cursor.rest.now in
    at_fault _ e end _ c.from_residual.ensures.1 (fails_as e end _ _ l.invariant
    (element_fails (term c.args.depth) c.args.at e end l.room (map term_view l.terms.items) _ _ _ (omega (arith, c.if-room-eq0.false)) c.in-Some.ensures c.in_err-term.ensures.fault))

pub elements-returns-clause-found : goal.elements-returns-clause-found
elements-returns-clause-found t c =
    let l = c.loop-terms in
    let n = c.in_default.ensures in
    let same = ap (λ r. left r.rest.now) n.0 in
    l.invariant ∙ elements_end (term c.args.depth) c.args.at l.room (map term_view l.terms.items) _ n.1 ∙ ap (got (map term_view l.terms.items)) (sym same)
