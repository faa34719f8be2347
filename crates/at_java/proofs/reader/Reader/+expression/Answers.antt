use Rattle.std.proofs.Common.{sym, ap, ◌∙◌, ◌-◌, map}
use Rattle.std.proofs.lemmas.List.{map_push}
use Rattle.at_text.specs.Rows.{left}
use Rattle.at_jrag.specs.View.{expr_view}
use lib.Chars.{codes}
use Rattle.at_java.specs.Read.{got, then_read}
use Rattle.at_java.specs.Tokens.{sign_here}
use Rattle.at_java.specs.Operands.{calls, max_arguments, items}
use Rattle.at_java.specs.Operators.{operands, links, max_links}
use Rattle.at_java.specs.OperatorView.{link_view}
use Rattle.at_java.specs.Expressions.{readers}
use Rattle.at_java.proofs.Exits.{found_as, fault_as, at_fault}
use Rattle.at_java.proofs.Then.{then_fails, fails_as}
use Rattle.at_java.proofs.Steps.{expression_step, unary_step, postfix_step, too_deep_there, operands_step, operands_none, calls_limit, arguments_limit, links_limit}
use Rattle.at_java.proofs.Loops.{some_left, none_left, one_call, no_call, too_many_calls, call_fails, one_link, no_link, too_many_links, link_fails, in_front, first_items, one_item, last_item, item_fails, comma_fails, too_many_items}
use Rattle.at_java.proofs.reader.Reader.+expression.Goals as goal

-- ---- readers of a number

pub expression_within-returns-then-budget-eq0-clause-fault : goal.expression_within-returns-then-budget-eq0-clause-fault
expression_within-returns-then-budget-eq0-clause-fault t c = (too_deep_there c.args.budget (left c.args.self.now.cursor.rest.now) c.if-budget-eq0.true).0

pub expression_within-returns-clause-found : goal.expression_within-returns-clause-found
expression_within-returns-clause-found t c =
    found_as c.choice.result expr_view _ _ (left c.choice.new.self.cursor.rest.now)
    (expression_step c.args.budget (left c.args.self.now.cursor.rest.now) c.if-budget-eq0.false) c.choice.ensures.found

pub expression_within-returns-clause-fault : goal.expression_within-returns-clause-fault
expression_within-returns-clause-fault t c =
    fault_as c.choice.result _ _ (left c.choice.new.self.cursor.rest.now)
    (expression_step c.args.budget (left c.args.self.now.cursor.rest.now) c.if-budget-eq0.false) c.choice.ensures.fault

pub unary_within-returns-then-budget-eq0-clause-fault : goal.unary_within-returns-then-budget-eq0-clause-fault
unary_within-returns-then-budget-eq0-clause-fault t c = (too_deep_there c.args.budget (left c.args.self.now.cursor.rest.now) c.if-budget-eq0.true).1

pub unary_within-returns-clause-found : goal.unary_within-returns-clause-found
unary_within-returns-clause-found t c =
    found_as c.unary.result expr_view _ _ (left c.unary.new.self.cursor.rest.now)
    (unary_step c.args.budget (left c.args.self.now.cursor.rest.now) c.if-budget-eq0.false) c.unary.ensures.found

pub unary_within-returns-clause-fault : goal.unary_within-returns-clause-fault
unary_within-returns-clause-fault t c =
    fault_as c.unary.result _ _ (left c.unary.new.self.cursor.rest.now)
    (unary_step c.args.budget (left c.args.self.now.cursor.rest.now) c.if-budget-eq0.false) c.unary.ensures.fault

pub postfix_within-returns-then-budget-eq0-clause-fault : goal.postfix_within-returns-then-budget-eq0-clause-fault
postfix_within-returns-then-budget-eq0-clause-fault t c = (too_deep_there c.args.budget (left c.args.self.now.cursor.rest.now) c.if-budget-eq0.true).2

pub postfix_within-returns-clause-found : goal.postfix_within-returns-clause-found
postfix_within-returns-clause-found t c =
    found_as c.postfix.result expr_view _ _ (left c.postfix.new.self.cursor.rest.now)
    (postfix_step c.args.budget (left c.args.self.now.cursor.rest.now) c.if-budget-eq0.false) c.postfix.ensures.found

pub postfix_within-returns-clause-fault : goal.postfix_within-returns-clause-fault
postfix_within-returns-clause-fault t c =
    fault_as c.postfix.result _ _ (left c.postfix.new.self.cursor.rest.now)
    (postfix_step c.args.budget (left c.args.self.now.cursor.rest.now) c.if-budget-eq0.false) c.postfix.ensures.fault

-- ---- operands of a rank

pub operands-returns-then-rank-eq0-clause-found : goal.operands-returns-then-rank-eq0-clause-found
operands-returns-then-rank-eq0-clause-found t c =
    found_as c.unary.result expr_view _ _ (left c.unary.new.self.cursor.rest.now)
    (operands_none (readers c.args.depth) c.args.rank (left c.args.self.now.cursor.rest.now) c.if-rank-eq0.true) c.unary.ensures.found

pub operands-returns-then-rank-eq0-clause-fault : goal.operands-returns-then-rank-eq0-clause-fault
operands-returns-then-rank-eq0-clause-fault t c =
    fault_as c.unary.result _ _ (left c.unary.new.self.cursor.rest.now)
    (operands_none (readers c.args.depth) c.args.rank (left c.args.self.now.cursor.rest.now) c.if-rank-eq0.true) c.unary.ensures.fault

pub operands-returns-in_err-first-clause-fault : goal.operands-returns-in_err-first-clause-fault
operands-returns-in_err-first-clause-fault t c =
    let r = readers c.args.depth in
    at_fault _ c.in_err-first.field-0.0 (left c.operands.new.self.cursor.rest.now) _ c.from_residual.ensures.1
    (fails_as c.in_err-first.field-0.0 (left c.operands.new.self.cursor.rest.now) _ _ (operands_step r c.args.rank (left c.args.self.now.cursor.rest.now) c.if-rank-eq0.false)
    (then_fails c.in_err-first.field-0.0 (left c.operands.new.self.cursor.rest.now) _ (λ e rest. links (operands r (c.args.rank - 1)) c.args.rank max_links e rest) c.in_err-first.ensures.fault))

pub operands-returns-clause-found : goal.operands-returns-clause-found
operands-returns-clause-found t c =
    let r = readers c.args.depth in
    found_as c.links.result expr_view _ _ (left c.links.new.self.cursor.rest.now)
    (operands_step r c.args.rank (left c.args.self.now.cursor.rest.now) c.if-rank-eq0.false
    ∙ ap (λ q. then_read q (λ e rest. links (operands r (c.args.rank - 1)) c.args.rank max_links e rest)) c.in_ok-first.ensures.found) c.links.ensures.found

pub operands-returns-clause-fault : goal.operands-returns-clause-fault
operands-returns-clause-fault t c =
    let r = readers c.args.depth in
    fault_as c.links.result _ _ (left c.links.new.self.cursor.rest.now)
    (operands_step r c.args.rank (left c.args.self.now.cursor.rest.now) c.if-rank-eq0.false
    ∙ ap (λ q. then_read q (λ e rest. links (operands r (c.args.rank - 1)) c.args.rank max_links e rest)) c.in_ok-first.ensures.found) c.links.ensures.fault

-- ---- links

pub links-loop-link-init : goal.links-loop-link-init
links-loop-link-init t c =
    ap (λ n. links (operands (readers c.args.depth) (c.args.rank - 1)) c.args.rank n (expr_view c.args.first) (left c.args.self.now.cursor.rest.now)) links_limit

pub links-loop-link-preserved : goal.links-loop-link-preserved
links-loop-link-preserved t c =
    let l = c.loop-link in
    l.invariant ∙ one_link (operands (readers c.args.depth) (c.args.rank - 1)) c.args.rank l.more (expr_view l.operand) (expr_view c.in_ok-operand.operand) (link_view c.in-Some.link)
    (left l.self.cursor.rest.now) (left c.link.new.self.cursor.rest.now) (left c.linked.new.self.cursor.rest.now) c.if-more-eq0.false c.in-Some.ensures c.in_ok-operand.ensures.found

pub links-returns-then-more-eq0-clause-fault : goal.links-returns-then-more-eq0-clause-fault
links-returns-then-more-eq0-clause-fault t c =
    let l = c.loop-link in
    l.invariant ∙ too_many_links (operands (readers c.args.depth) (c.args.rank - 1)) c.args.rank l.more (expr_view l.operand) (link_view c.in-Some.link)
    (left l.self.cursor.rest.now) (left c.link.new.self.cursor.rest.now) c.if-more-eq0.true c.in-Some.ensures

pub links-returns-in_err-operand-clause-fault : goal.links-returns-in_err-operand-clause-fault
links-returns-in_err-operand-clause-fault t c =
    let l = c.loop-link in
    let e = c.in_err-operand.field-0.0 in
    at_fault _ e (left c.linked.new.self.cursor.rest.now) _ c.from_residual.ensures.1 (fails_as e (left c.linked.new.self.cursor.rest.now) _ _ l.invariant
    (link_fails e (operands (readers c.args.depth) (c.args.rank - 1)) c.args.rank l.more (expr_view l.operand) (link_view c.in-Some.link)
    (left l.self.cursor.rest.now) (left c.link.new.self.cursor.rest.now) (left c.linked.new.self.cursor.rest.now) c.if-more-eq0.false c.in-Some.ensures c.in_err-operand.ensures.fault))

pub links-returns-clause-found : goal.links-returns-clause-found
links-returns-clause-found t c =
    let l = c.loop-link in
    let n = c.in_default.ensures in
    l.invariant ∙ no_link (operands (readers c.args.depth) (c.args.rank - 1)) c.args.rank l.more (expr_view l.operand) (left l.self.cursor.rest.now) n.1
    ∙ ap (λ k. got (expr_view l.operand) (left k.rest.now)) (sym n.0)

-- ---- calls

pub calls-loop-receiver-init : goal.calls-loop-receiver-init
calls-loop-receiver-init t c = ap (λ n. calls (readers c.args.depth) n (expr_view c.args.first) (left c.args.self.now.cursor.rest.now)) calls_limit

pub calls-loop-receiver-preserved : goal.calls-loop-receiver-preserved
calls-loop-receiver-preserved t c =
    let l = c.loop-receiver in
    l.invariant ∙ one_call (readers c.args.depth) l.more (expr_view l.receiver) (expr_view c.in_ok-receiver.receiver) _
    (left l.self.cursor.rest.now) (left c.takes.new.self.cursor.rest.now) (left c.call_of.new.self.cursor.rest.now) c.if-more-eq0.false c.in-Some.ensures c.in_ok-receiver.ensures.found

pub calls-returns-then-more-eq0-clause-fault : goal.calls-returns-then-more-eq0-clause-fault
calls-returns-then-more-eq0-clause-fault t c =
    let l = c.loop-receiver in
    l.invariant ∙ too_many_calls (readers c.args.depth) l.more (expr_view l.receiver) _ (left l.self.cursor.rest.now) (left c.takes.new.self.cursor.rest.now) c.if-more-eq0.true c.in-Some.ensures

pub calls-returns-in_err-receiver-clause-fault : goal.calls-returns-in_err-receiver-clause-fault
calls-returns-in_err-receiver-clause-fault t c =
    let l = c.loop-receiver in
    let e = c.in_err-receiver.field-0.0 in
    at_fault _ e (left c.call_of.new.self.cursor.rest.now) _ c.from_residual.ensures.1 (fails_as e (left c.call_of.new.self.cursor.rest.now) _ _ l.invariant
    (call_fails e (readers c.args.depth) l.more (expr_view l.receiver) _ (left l.self.cursor.rest.now) (left c.takes.new.self.cursor.rest.now)
    (left c.call_of.new.self.cursor.rest.now) c.if-more-eq0.false c.in-Some.ensures c.in_err-receiver.ensures.fault))

pub calls-returns-clause-found : goal.calls-returns-clause-found
calls-returns-clause-found t c =
    let l = c.loop-receiver in
    let n = c.in_default.ensures in
    l.invariant ∙ no_call (readers c.args.depth) l.more (expr_view l.receiver) (left l.self.cursor.rest.now) n.1 ∙ ap (λ k. got (expr_view l.receiver) (left k.rest.now)) (sym n.0)

-- ---- arguments

pub items-loop-more-init : goal.items-loop-more-init
items-loop-more-init t c =
    first_items (readers c.args.depth).expression max_arguments 255 _ (left c.args.self.now.cursor.rest.now) arguments_limit (ap (map expr_view) c.new-items.ensures.items)

pub items-loop-more-preserved : goal.items-loop-more-preserved
items-loop-more-preserved t c =
    let l = c.loop-more in
    let n = c.in_default.ensures in
    let more = (readers c.args.depth).expression in
    let q = ap (map expr_view) c.in_ok-push.ensures.items ∙ map_push expr_view l.items.items c.in_ok-next.next in
    l.invariant ∙ one_item more l.more (map expr_view l.items.items) (expr_view c.in_ok-next.next) _ (left l.self.cursor.rest.now) (left c.expression_within.new.self.cursor.rest.now)
    (left c.expects.new.self.cursor.rest.now) (some_left l.more c.loop-more-test.true) c.in_ok-next.ensures.found n.1
    (ap (λ k. sign_here (codes ",") (left k.rest.now)) (sym n.0) ∙ c.in_ok-expects.ensures.found)
    ∙ ap (λ v. in_front v (items more (l.more - 1) (left c.expects.new.self.cursor.rest.now))) (sym q)

pub items-returns-in_err-next-clause-fault : goal.items-returns-in_err-next-clause-fault
items-returns-in_err-next-clause-fault t c =
    let l = c.loop-more in
    let e = c.in_err-next.field-0.0 in
    at_fault _ e (left c.expression_within.new.self.cursor.rest.now) _ c.from_residual.ensures.1 (fails_as e (left c.expression_within.new.self.cursor.rest.now) _ _ l.invariant
    (item_fails e (readers c.args.depth).expression l.more (map expr_view l.items.items) (left l.self.cursor.rest.now) (left c.expression_within.new.self.cursor.rest.now)
    (some_left l.more c.loop-more-test.true) c.in_err-next.ensures.fault))

pub items-returns-in-Some-clause-found : goal.items-returns-in-Some-clause-found
items-returns-in-Some-clause-found t c =
    let l = c.loop-more in
    let q = ap (map expr_view) c.in_ok-push.ensures.items ∙ map_push expr_view l.items.items c.in_ok-next.next in
    l.invariant ∙ last_item (readers c.args.depth).expression l.more (map expr_view l.items.items) (expr_view c.in_ok-next.next) _ (left l.self.cursor.rest.now)
    (left c.expression_within.new.self.cursor.rest.now) (left c.takes.new.self.cursor.rest.now) (some_left l.more c.loop-more-test.true) c.in_ok-next.ensures.found c.in-Some.ensures
    ∙ ap (λ v. got v (left c.takes.new.self.cursor.rest.now)) (sym q)

pub items-returns-in_err-expects-clause-fault : goal.items-returns-in_err-expects-clause-fault
items-returns-in_err-expects-clause-fault t c =
    let l = c.loop-more in
    let n = c.in_default.ensures in
    let e = c.in_err-expects.field-0.0 in
    at_fault _ e (left c.expects.new.self.cursor.rest.now) _ c.from_residual-in_err-expects.ensures.1 (fails_as e (left c.expects.new.self.cursor.rest.now) _ _ l.invariant
    (comma_fails e (readers c.args.depth).expression l.more (map expr_view l.items.items) (expr_view c.in_ok-next.next) (left l.self.cursor.rest.now)
    (left c.expression_within.new.self.cursor.rest.now) (left c.expects.new.self.cursor.rest.now) (some_left l.more c.loop-more-test.true) c.in_ok-next.ensures.found n.1
    (fails_as e (left c.expects.new.self.cursor.rest.now) _ _ (ap (λ k. sign_here (codes ",") (left k.rest.now)) (sym n.0)) c.in_err-expects.ensures.fault)))

pub items-returns-clause-fault : goal.items-returns-clause-fault
items-returns-clause-fault t c =
    let l = c.loop-more in
    l.invariant ∙ too_many_items (readers c.args.depth).expression l.more (map expr_view l.items.items) (left l.self.cursor.rest.now) (none_left l.more c.loop-more-test.false)
