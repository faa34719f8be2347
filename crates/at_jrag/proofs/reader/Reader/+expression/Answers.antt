use Rattle.std.proofs.Common.{ℕ, map, max, sym, ap, subst, ◌∙◌, arith, List, ◌≡◌, ◌≤◌, ◌-◌, [], ◌∷◌, ◌++◌}
use Rattle.std.specs.Str.{bytes_eq}
use Rattle.std.proofs.lemmas.Result.{err_from_is_err_and, IfOk-weaker}
use lib.Chars.{codes}
use Rattle.std.proofs.lemmas.List.{map_push}
use Rattle.at_jrag.specs.Syntax.{Expr, to_exprs}
use Rattle.at_jrag.specs.View.{expr_view, fold_view, word_view, operator_view}
use Rattle.at_jrag.specs.declared.syntax.Expr.{Expr as ExprValue}
use Rattle.at_text.specs.Rows.{Row, left, sign, is_sign, next_is}
use Rattle.at_jrag.specs.Grammar.{Arguments, Opens, deepest}
use Rattle.at_jrag.specs.Read.{Reads, StandsBefore, LinksTo}
use Rattle.at_jrag.specs.Runs.{Goes, IsOther, Moves, Stays, Halts, reason_of}
use Rattle.at_jrag.proofs.of_expressions.Expressions.{Wanted, wanted_next, wanted_end, next_shorter, deepest_push, call_of_reads, fold_reads, prefix_reads, choice_reads, operation_reads, instance_reads, paren_reads, call_reads, called_unary, wanted_first}
use Rattle.at_jrag.specs.Wants.{Binary, Links, Unary, Calls}
use Rattle.at_jrag.proofs.of_expressions.ExpressionRuns.{expression_plain, choice_goes, then_moves, arguments_go, no_arguments_go, paren_goes}
use Rattle.at_jrag.proofs.of_expressions.ExpressionsTaken.{next_first, deep}
use Rattle.at_jrag.proofs.of_expressions.OperatorStops.{at_error, if_err_weaker, if_ok_both, by_rows, condition_halts, choice_too_deep, chosen_halts, colon_halts, other_halts, unary_goes, unary_halts}
use Rattle.at_jrag.proofs.of_expressions.OperatorStops.{operand_goes, operand_halts, operands_end, link_too_deep, linked_halts, operator_moves, operator_stays, instance_goes, instance_stays}
use Rattle.at_jrag.proofs.of_expressions.OperatorStops.{unary_too_deep, negative_stops, negative_moves, negative_halts, prefix_goes, inner_halts, prefix_stops, IsPlain, post_goes, primary_halts}
use Rattle.at_jrag.proofs.of_expressions.OperatorStops.{calls_halt}
use Rattle.at_jrag.specs.Table.{begins_fold}
use Rattle.at_jrag.proofs.PartStops.{reach_goes, reach_stays, reach_halts, mark_missing, name_missing, reach_sign, reach_name, calls_too_deep, calls_no_name, calls_arguments, calls_more}
use Rattle.at_jrag.proofs.PartStops.{calls_done, among_start, among_next, among_end, among_halts, among_no_comma, arguments_halt, not_opened, literal_missing, primary_missing, no_literal}
use Rattle.at_jrag.proofs.PartStops.{paren_too_deep, fold_too_deep, paren_halts, paren_open, plain_name, named_goes, named_halts, fold_opens, fold_list, fold_close, fold_body, brace_missing}
use Rattle.at_jrag.proofs.PartStops.{literal_taken, named_here, fold_here, fold_done}
use Rattle.at_jrag.specs.Wants as want
use Rattle.at_jrag.proofs.reader.Reader.+expression.Goals as goal

pub arguments-returns-then-skips-2-clause-found : goal.arguments-returns-then-skips-2-clause-found
arguments-returns-then-skips-2-clause-found t c =
    let i = c.loop-items.invariant in
    let n = c.in_ok-next.ensures.found in
    let pushed = c.in_ok-push.ensures.items ∙ ap (λ (e : ExprValue). c.loop-items.items.items ++ e ∷ []) c.into_expr.ensures in
    let q = ap (map expr_view) pushed ∙ map_push expr_view c.loop-items.items.items c.in_ok-next.next.expr in
    let s = c.if-skips-2.ensures in
    let g = c.if-skips.ensures in
    let o = subst (λ (x : Row). Opens c.args.name.now (left c.args.self.now.cursor.rest.now) x) (sym (ap (λ r. left r.rest.now) g.0)) c.in_ok-opens.ensures.found in (
      left c.skips.new.self.cursor.rest.now,
      o,
      subst (λ (x : List Expr). Arguments (to_exprs x) (left c.skips.new.self.cursor.rest.now) (left c.skips-in-loop-items.new.self.cursor.rest.now)) (sym q)
          (wanted_end _ _ _ _ _ _ i.2 n.0 (s.0, s.1)),
      c.max-depth.ensures ∙ (λ k. max (i.1 k) (n.2 k)) ∙ sym (deepest_push (map expr_view c.loop-items.items.items) (expr_view c.in_ok-next.next.expr)) ∙ ap (λ x. deepest (to_exprs x)) (sym q),
    )

pub arguments-loop-items-preserved : goal.arguments-loop-items-preserved
arguments-loop-items-preserved t c =
    let i = c.loop-items.invariant in
    let n = c.in_ok-next.ensures.found in
    let pushed = c.in_ok-push.ensures.items ∙ ap (λ (e : ExprValue). c.loop-items.items.items ++ e ∷ []) c.into_expr.ensures in
    let q = ap (map expr_view) pushed ∙ map_push expr_view c.loop-items.items.items c.in_ok-next.next.expr in
    let comma = sym (ap (λ r. left r.rest.now) c.if-skips-2.ensures.0) ∙ c.in_ok-expects.ensures.found in (
      omega (arith, c.max-depth.ensures, i.0, c.in_ok-next.ensures.depth),
      c.max-depth.ensures ∙ (λ k. max (i.1 k) (n.2 k)) ∙ sym (deepest_push (map expr_view c.loop-items.items.items) (expr_view c.in_ok-next.next.expr)) ∙ ap (λ x. deepest (to_exprs x)) (sym q),
      subst (λ (x : List Expr). Wanted x (left c.skips.new.self.cursor.rest.now) (left c.expects.new.self.cursor.rest.now)) (sym q) (wanted_next _ _ _ _ _ _ i.2 n.0 (_, comma)),
      among_next _ c.loop-items.depth c.in_ok-next.next.depth c.max-depth.result _ _ _ _ _ i.3 c.in_ok-next.ensures.goes comma c.max-depth.ensures,
    )

pub arguments-loop-items-smaller : goal.arguments-loop-items-smaller
arguments-loop-items-smaller t c =
    let n = c.in_ok-next.ensures.found in
    let comma = sym (ap (λ r. left r.rest.now) c.if-skips-2.ensures.0) ∙ c.in_ok-expects.ensures.found in
    next_shorter _ _ _ _ n.0 (_, comma)

pub calls-loop-self-preserved : goal.calls-loop-self-preserved
calls-loop-self-preserved t c =
    let i = c.loop-self.invariant in
    let b = rw c.in-Some.is at c.in_ok-takes_within.ensures.found in
    let a = c.in_ok-arguments.ensures in
    let m = c.in_ok-receiver.ensures in
    let h = rw c.as_str.ensures.value at a.found in
    let w = word_view c.in_ok-name.name in
    let g = subst (λ (x : List ℕ). Goes (want.Arguments (bytes_eq x (codes "getChild"))) (λ b. []) c.in_ok-arguments.arguments.depth (left c.name.new.self.cursor.rest.now)
    (left c.arguments.new.self.cursor.rest.now))
    c.as_str.ensures.value a.goes in (
      omega (arith, m.depth, b.1, i.0, a.depth),
      λ old r. call_of_reads _ _ w c.in_ok-arguments.arguments old _ _ _ _ (i.1 old r) (_, b.0) c.in_ok-name.ensures.found h m.made m.depth,
      calls_more c.args.first.depth c.loop-self.receiver.depth c.in_ok-arguments.arguments.depth c.in_ok-receiver.receiver.depth _ w _ _ _ _ _ i.2 b.0 c.in_ok-name.ensures.found g m.depth,
      omega (arith, m.depth, i.3),
    )

pub fold-returns-clause-found : goal.fold-returns-clause-found
fold-returns-clause-found t c = λ old w.
    fold_reads (fold_view c.args.form) c.args.at _ _ _ (word_view c.in_ok-name.name) old _ _ _ _ _ _ _ _ _
    c.in_ok-fold.ensures.made c.in_ok-fold.ensures.depth w (_, c.in_ok-expects.ensures.found) c.in_ok-name.ensures.found (_, c.in_ok-expects-2.ensures.found)
    c.in_ok-list.ensures.plain (c.in_ok-list-2.ensures.found _ c.in_ok-list.ensures.found) (_, c.in_ok-expects-3.ensures.found) (_, c.in_ok-expects-4.ensures.found)
    c.in_ok-body.ensures.found (_, c.in_ok-expects-5.ensures.found)

pub unary-returns-in-Some-2-clause-found : goal.unary-returns-in-Some-2-clause-found
unary-returns-in-Some-2-clause-found t c =
    let same = rw c.in_default.is at c.in_ok-number.ensures.found in
    let b = rw c.in-Some-2.is at c.in_ok-at.ensures.found in
    let g = subst (λ (x : Row). StandsBefore c.in-Some-2.prefix c.in-Some-2.at x (left c.prefix.new.self.cursor.rest.now)) (ap (λ r. left r.rest.now) same.0) b in
    prefix_reads c.in-Some-2.prefix c.in-Some-2.at _ _ _ _ _ c.in_ok-prefixed.ensures.made c.in_ok-prefixed.ensures.depth g c.in_ok-inner.ensures.found

pub expression-returns-in_default-clause-found : goal.expression-returns-in_default-clause-found
expression-returns-in_default-clause-found t c =
    let n = rw c.in_default.is at c.in_ok-behind.ensures.found in
    let r = c.in_ok-condition.ensures.found in
    subst (λ (x : Row). Reads 0 c.in_ok-condition.condition (left c.args.self.now.cursor.rest.now) x) (sym (ap (λ r. left r.rest.now) n.0)) (r.0, omega arith, r.2)

pub expression-returns-clause-found : goal.expression-returns-clause-found
expression-returns-clause-found t c =
    let b = rw c.in-Some.is at c.in_ok-behind.ensures.found in
    choice_reads _ c.in_ok-condition.condition c.in_ok-then.then c.in_ok-other.other _ (left c.args.self.now.cursor.rest.now) _ _ _ _ _
    c.in_ok-condition.ensures.found b.0 c.in_ok-then.ensures.found (_, c.in_ok-expects.ensures.found) c.in_ok-other.ensures.found c.in_ok-choice.ensures.made c.in_ok-choice.ensures.depth

pub linked-returns-in_ok-operation-in-Operator-clause-found : goal.linked-returns-in_ok-operation-in-Operator-clause-found
linked-returns-in_ok-operation-in-Operator-clause-found t c = λ old rest r l.
    let s = rw c.in-Operator.is at l in
    operation_reads _ c.args.operand c.in_ok-right-in-Operator.right (operator_view c.in-Operator.operator.operator) c.in-Operator.operator.at c.args.level old rest _ _
    r s.1.0 (s.2 ∙ ap (λ t. t ∷ left c.args.self.now.cursor.rest.now) s.1.1)
    (rw c.right_level.ensures at c.in_ok-right-in-Operator.ensures.found)
    (c.in_ok-operation-in-Operator).ensures.made (c.in_ok-operation-in-Operator).ensures.depth

pub linked-returns-in_ok-instance_of-in-InstanceOf-clause-found : goal.linked-returns-in_ok-instance_of-in-InstanceOf-clause-found
linked-returns-in_ok-instance_of-in-InstanceOf-clause-found t c = λ old rest r l.
    let s = rw c.in-InstanceOf.is at l in
    instance_reads _ c.args.operand c.in-InstanceOf.behind (word_view c.in_ok-class-in-InstanceOf.class) c.args.level old rest _ _
    r s.1.0 (s.2 ∙ ap (λ t. t ∷ left c.args.self.now.cursor.rest.now) s.1.1) c.in_ok-class-in-InstanceOf.ensures.found
    (c.in_ok-instance_of-in-InstanceOf).ensures.made (c.in_ok-instance_of-in-InstanceOf).ensures.depth

pub primary-returns-in-Some-2-clause-found : goal.primary-returns-in-Some-2-clause-found
primary-returns-in-Some-2-clause-found t c =
    let l = rw c.in_default.is at c.in_ok-literal.ensures.found in
    let b = rw c.in-Some-2.is at c.in_ok-at.ensures.found in
    paren_reads _ c.in_ok-inner.inner _ (left c.args.self.now.cursor.rest.now) _ _ _
    (sym (ap (λ r. left r.rest.now) l.0) ∙ b.0) c.in_ok-inner.ensures.found (_, c.in_ok-expects.ensures.found) c.in_ok-parenthesized.ensures.made c.in_ok-parenthesized.ensures.depth

pub named-returns-clause-found : goal.named-returns-clause-found
named-returns-clause-found t c =
    let h = rw c.as_str.ensures.value at c.in_ok-arguments.ensures.found in
    call_reads _ (word_view c.in_ok-name.name) c.in_ok-arguments.arguments _ _ _ c.in_ok-name.ensures.found h c.call.ensures.made c.call.ensures.depth

pub unary-returns-in-Some-clause-found : goal.unary-returns-in-Some-clause-found
unary-returns-in-Some-clause-found t c =
    let m = rw c.in-Some.is at c.in_ok-number.ensures.found in
    called_unary c.in-Some.number c.calls.result _ _ _ m.0 c.calls.ensures.found

pub unary-returns-clause-found : goal.unary-returns-clause-found
unary-returns-clause-found t c =
    let same = rw c.in_default.is at c.in_ok-number.ensures.found in
    let found = rw c.in_default-2.is at c.in_ok-at.ensures.found in
    let rows : left c.prefix.new.self.cursor.rest.now ≡ left c.args.self.now.cursor.rest.now = ap (λ r. left r.rest.now) found.0 ∙ ap (λ r. left r.rest.now) same.0 in
    let first = subst (λ (x : Row). Reads 8 c.in_ok-first.first x (left c.primary.new.self.cursor.rest.now)) rows c.in_ok-first.ensures.found in
    called_unary c.in_ok-first.first c.calls-2.result _ _ _ first c.calls-2.ensures.found

-- ---- operators and unaries: where the machine goes, and where it halts

pub expression-returns-in_err-condition-clause-halts : goal.expression-returns-in_err-condition-clause-halts
expression-returns-in_err-condition-clause-halts t c =
    let h = condition_halts c.args.budget (reason_of c.in_err-condition.field-0.0) (left c.args.self.now.cursor.rest.now) (left c.binary.new.self.cursor.rest.now) c.in_err-condition.ensures.halts in
    at_error _ c.in_err-condition.field-0.0 _ c.from_residual.ensures.1 h

pub expression-returns-in_err-behind-clause-halts : goal.expression-returns-in_err-behind-clause-halts
expression-returns-in_err-behind-clause-halts t c =
    let k = c.in_ok-condition.ensures in
    let e = c.in_err-behind.ensures.refused in
    let h = choice_too_deep c.args.budget c.in_ok-condition.condition.depth c.in_err-behind.field-0.0 (left c.args.self.now.cursor.rest.now) (left c.binary.new.self.cursor.rest.now)
    (left c.takes_within.new.self.cursor.rest.now)
    k.depth k.goes (e.0, ap (λ r. left r.rest.now) e.1, e.2, e.3) in
    at_error _ c.in_err-behind.field-0.0 _ c.from_residual-in_err-behind.ensures.1 h

pub expression-returns-in_default-clause-goes : goal.expression-returns-in_default-clause-goes
expression-returns-in_default-clause-goes t c =
    let n = rw c.in_default.is at c.in_ok-behind.ensures.found in
    let k = c.in_ok-condition.ensures in
    subst (λ (x : Row). Goes want.Expression (λ b. []) c.in_ok-condition.condition.depth (left c.args.self.now.cursor.rest.now) x) (sym (ap (λ r. left r.rest.now) n.0))
    (expression_plain c.in_ok-condition.condition.depth (left c.args.self.now.cursor.rest.now) (left c.binary.new.self.cursor.rest.now)
    (sym (next_first (is_sign (codes "?")) (left c.binary.new.self.cursor.rest.now)) ∙ n.1) k.goes)

pub expression-returns-in_err-then-clause-halts : goal.expression-returns-in_err-then-clause-halts
expression-returns-in_err-then-clause-halts t c =
    let b = rw c.in-Some.is at c.in_ok-behind.ensures.found in
    let k = c.in_ok-condition.ensures in
    let h = chosen_halts c.args.budget c.in_ok-condition.condition.depth (reason_of c.in_err-then.field-0.0) _ (left c.args.self.now.cursor.rest.now) (left c.binary.new.self.cursor.rest.now)
    (left c.takes_within.new.self.cursor.rest.now) (left c.expression.new.self.cursor.rest.now)
    b.1 k.goes b.0 c.in_err-then.ensures.halts in
    at_error _ c.in_err-then.field-0.0 _ c.from_residual-in_err-then.ensures.1 h

pub expression-returns-in_err-expects-clause-halts : goal.expression-returns-in_err-expects-clause-halts
expression-returns-in_err-expects-clause-halts t c =
    let b = rw c.in-Some.is at c.in_ok-behind.ensures.found in
    let k = c.in_ok-condition.ensures in
    let m = c.in_ok-then.ensures in
    let h = colon_halts c.args.budget c.in_ok-condition.condition.depth c.in_ok-then.then.depth
    c.in_err-expects.field-0.0 _ (left c.args.self.now.cursor.rest.now) (left c.binary.new.self.cursor.rest.now)
    (left c.takes_within.new.self.cursor.rest.now)
    (left c.expression.new.self.cursor.rest.now) (left c.expects.new.self.cursor.rest.now) b.1 m.depth k.goes b.0 m.goes c.in_err-expects.ensures.missing in
    at_error _ c.in_err-expects.field-0.0 _ c.from_residual-in_err-expects.ensures.1 h

pub expression-returns-in_err-other-clause-halts : goal.expression-returns-in_err-other-clause-halts
expression-returns-in_err-other-clause-halts t c =
    let b = rw c.in-Some.is at c.in_ok-behind.ensures.found in
    let k = c.in_ok-condition.ensures in
    let m = c.in_ok-then.ensures in
    let h = other_halts c.args.budget c.in_ok-condition.condition.depth c.in_ok-then.then.depth (reason_of c.in_err-other.field-0.0) _ _ (left c.args.self.now.cursor.rest.now)
    (left c.binary.new.self.cursor.rest.now) (left c.takes_within.new.self.cursor.rest.now)
    (left c.expression.new.self.cursor.rest.now) (left c.expects.new.self.cursor.rest.now)
    (left c.expression-2.new.self.cursor.rest.now) b.1 m.depth k.goes b.0 m.goes c.in_ok-expects.ensures.found
    c.in_err-other.ensures.halts in
    at_error _ c.in_err-other.field-0.0 _ c.from_residual-in_err-other.ensures.1 h

pub expression-returns-clause-goes : goal.expression-returns-clause-goes
expression-returns-clause-goes t c =
    let b = rw c.in-Some.is at c.in_ok-behind.ensures.found in
    let g = choice_goes c.in_ok-condition.condition.depth c.in_ok-then.then.depth c.in_ok-other.other.depth _ _ (left c.args.self.now.cursor.rest.now) (left c.binary.new.self.cursor.rest.now)
    (left c.takes_within.new.self.cursor.rest.now)
    (left c.expression.new.self.cursor.rest.now) (left c.expects.new.self.cursor.rest.now) (left c.expression-2.new.self.cursor.rest.now)
    c.in_ok-condition.ensures.goes b.0 c.in_ok-then.ensures.goes c.in_ok-expects.ensures.found c.in_ok-other.ensures.goes in
    subst (λ (n : ℕ). Goes want.Expression (λ b. []) n (left c.args.self.now.cursor.rest.now) (left c.expression-2.new.self.cursor.rest.now)) (sym c.in_ok-choice.ensures.depth) g

pub binary-returns-then-level-ge-UNARY-clause-goes : goal.binary-returns-then-level-ge-UNARY-clause-goes
binary-returns-then-level-ge-UNARY-clause-goes t c =
    let h : 7 ≤ c.args.level = omega arith in
    IfOk-weaker c.unary.result (λ m. Goes Unary (λ b. []) m.depth (left c.args.self.now.cursor.rest.now) (left c.unary.new.self.cursor.rest.now))
    (λ m. Goes (Binary (7 - c.args.level)) (λ b. []) m.depth (left c.args.self.now.cursor.rest.now) (left c.unary.new.self.cursor.rest.now))
    (λ m g. unary_goes c.args.level m.depth (left c.args.self.now.cursor.rest.now) (left c.unary.new.self.cursor.rest.now) h g) c.unary.ensures.goes

pub binary-returns-then-level-ge-UNARY-clause-halts : goal.binary-returns-then-level-ge-UNARY-clause-halts
binary-returns-then-level-ge-UNARY-clause-halts t c =
    let h : 7 ≤ c.args.level = omega arith in
    if_err_weaker c.unary.result (λ e. Halts (Unary c.args.budget) (reason_of e) (left c.args.self.now.cursor.rest.now) (left c.unary.new.self.cursor.rest.now))
    (λ e. Halts (Binary (7 - c.args.level) c.args.budget) (reason_of e) (left c.args.self.now.cursor.rest.now) (left c.unary.new.self.cursor.rest.now))
    (λ e s. unary_halts c.args.level c.args.budget (reason_of e) (left c.args.self.now.cursor.rest.now) (left c.unary.new.self.cursor.rest.now) h s) c.unary.ensures.halts

pub binary-returns-in_err-operand-clause-halts : goal.binary-returns-in_err-operand-clause-halts
binary-returns-in_err-operand-clause-halts t c =
    let h = operand_halts c.args.level c.args.budget (reason_of c.in_err-operand.field-0.0) (left c.args.self.now.cursor.rest.now) (left c.binary.new.self.cursor.rest.now)
    (omega arith) c.in_err-operand.ensures.halts in
    at_error _ c.in_err-operand.field-0.0 _ c.from_residual.ensures.1 h

pub binary-loop-link-init : goal.binary-loop-link-init
binary-loop-link-init t c =
    let m = c.in_ok-operand.ensures in (
      m.depth,
      (m.found.0, omega (arith, m.found.1), m.found.2),
      operand_goes c.args.level c.in_ok-operand.operand.depth (left c.args.self.now.cursor.rest.now) (left c.binary.new.self.cursor.rest.now) (omega arith) m.goes,
    )

pub binary-loop-link-preserved : goal.binary-loop-link-preserved
binary-loop-link-preserved t c =
    let i = c.loop-link.invariant in
    let b = rw c.in-Some.is at c.in_ok-link.ensures.found in
    let m = c.in_ok-operand-2.ensures in
    let l = m.deeper in (
      m.depth,
      m.found _ _ i.1 b.1,
      then_moves (Binary (7 - c.args.level)) (λ b. Links (6 - c.args.level) b ∷ []) (λ b. Links (6 - c.args.level) b ∷ []) c.loop-link.operand.depth _ (left c.args.self.now.cursor.rest.now)
          (left c.loop-link.self.cursor.rest.now) (left c.linked.new.self.cursor.rest.now)
          (omega (arith, l)) i.2 (m.goes _ b.1),
    )

pub binary-returns-in_err-link-clause-halts : goal.binary-returns-in_err-link-clause-halts
binary-returns-in_err-link-clause-halts t c =
    let i = c.loop-link.invariant in
    let e = c.in_err-link.ensures.refused in
    let h = link_too_deep c.args.level c.args.budget c.loop-link.operand.depth c.in_err-link.field-0.0 (left c.args.self.now.cursor.rest.now) (left c.loop-link.self.cursor.rest.now)
    (left c.link.new.self.cursor.rest.now)
    (omega arith) i.0 i.2 (e.0, ap (λ r. left r.rest.now) e.1, e.2, e.3) in
    at_error _ c.in_err-link.field-0.0 _ c.from_residual-in_err-link.ensures.1 h

pub binary-returns-in_err-operand-2-clause-halts : goal.binary-returns-in_err-operand-2-clause-halts
binary-returns-in_err-operand-2-clause-halts t c =
    let i = c.loop-link.invariant in
    let b = rw c.in-Some.is at c.in_ok-link.ensures.found in
    let h = linked_halts c.args.level c.args.budget c.loop-link.operand.depth (reason_of c.in_err-operand-2.field-0.0) (left c.args.self.now.cursor.rest.now) (left c.loop-link.self.cursor.rest.now)
    (left c.linked.new.self.cursor.rest.now)
    i.0 i.2 (c.in_err-operand-2.ensures.halts _ b.1) in
    at_error _ c.in_err-operand-2.field-0.0 _ c.from_residual-in_err-operand-2.ensures.1 h

pub binary-returns-clause-goes : goal.binary-returns-clause-goes
binary-returns-clause-goes t c =
    let i = c.loop-link.invariant in
    let same = rw c.in_default.is at c.in_ok-link.ensures.found in
    let none = rw c.in_default.is at c.in_ok-link.ensures.none in
    subst (λ (x : Row). Goes (Binary (7 - c.args.level)) (λ b. []) c.loop-link.operand.depth (left c.args.self.now.cursor.rest.now) x) (sym (ap (λ r. left r.rest.now) same))
    (operands_end c.args.level c.loop-link.operand.depth (left c.args.self.now.cursor.rest.now) (left c.loop-link.self.cursor.rest.now) (omega arith) none i.2)

pub linked-returns-in_err-right-in-Operator-clause-halts : goal.linked-returns-in_err-right-in-Operator-clause-halts
linked-returns-in_err-right-in-Operator-clause-halts t c =
    let o = operator_view c.in-Operator.operator.operator in
    let h = λ (start : Row) (l : LinksTo c.args.level c.args.link start (left c.args.self.now.cursor.rest.now)).
    let s = rw c.in-Operator.is at l in
    operator_stays o c.in-Operator.operator.at c.args.level c.args.budget c.args.operand.depth (reason_of c.in_err-right-in-Operator.field-0.0) start (left c.args.self.now.cursor.rest.now)
    (left c.binary.new.self.cursor.rest.now)
    s.1.0 c.requires.operand (s.2 ∙ ap (λ t. t ∷ left c.args.self.now.cursor.rest.now) s.1.1) (rw c.right_level.ensures at c.in_err-right-in-Operator.ensures.halts) in
    at_error _ c.in_err-right-in-Operator.field-0.0 _ c.from_residual.ensures.1 h

pub linked-returns-in_ok-operation-in-Operator-clause-goes : goal.linked-returns-in_ok-operation-in-Operator-clause-goes
linked-returns-in_ok-operation-in-Operator-clause-goes t c = λ start l.
    let s = rw c.in-Operator.is at l in
    operator_moves (operator_view c.in-Operator.operator.operator) c.in-Operator.operator.at c.args.level c.args.operand.depth c.in_ok-right-in-Operator.right.depth _ start
    (left c.args.self.now.cursor.rest.now) (left c.binary.new.self.cursor.rest.now)
    s.1.0 (c.in_ok-operation-in-Operator).ensures.depth (s.2 ∙ ap (λ t. t ∷ left c.args.self.now.cursor.rest.now) s.1.1) (rw c.right_level.ensures at c.in_ok-right-in-Operator.ensures.goes)

pub linked-returns-in_err-class-in-InstanceOf-clause-halts : goal.linked-returns-in_err-class-in-InstanceOf-clause-halts
linked-returns-in_err-class-in-InstanceOf-clause-halts t c =
    let h = λ (start : Row) (l : LinksTo c.args.level c.args.link start (left c.args.self.now.cursor.rest.now)).
    let s = rw c.in-InstanceOf.is at l in
    instance_stays c.in-InstanceOf.behind c.args.level c.args.budget c.args.operand.depth
    c.in_err-class-in-InstanceOf.field-0.0 start (left c.args.self.now.cursor.rest.now)
    (left c.name.new.self.cursor.rest.now)
    s.1.0 c.requires.operand (s.2 ∙ ap (λ t. t ∷ left c.args.self.now.cursor.rest.now) s.1.1) c.in_err-class-in-InstanceOf.ensures.missing in
    at_error _ c.in_err-class-in-InstanceOf.field-0.0 _ c.from_residual-in_err-class-in-InstanceOf.ensures.1 h

pub linked-returns-in_ok-instance_of-in-InstanceOf-clause-goes : goal.linked-returns-in_ok-instance_of-in-InstanceOf-clause-goes
linked-returns-in_ok-instance_of-in-InstanceOf-clause-goes t c = λ start l.
    let s = rw c.in-InstanceOf.is at l in
    instance_goes c.in-InstanceOf.behind (word_view c.in_ok-class-in-InstanceOf.class) c.args.level c.args.operand.depth
    _ start (left c.args.self.now.cursor.rest.now) (left c.name.new.self.cursor.rest.now)
    s.1.0 (c.in_ok-instance_of-in-InstanceOf).ensures.depth (s.2 ∙ ap (λ t. t ∷ left c.args.self.now.cursor.rest.now) s.1.1) c.in_ok-class-in-InstanceOf.ensures.found

pub unary-returns-then-budget-eq0-clause-halts : goal.unary-returns-then-budget-eq0-clause-halts
unary-returns-then-budget-eq0-clause-halts t c = unary_too_deep c.args.budget _ (left c.args.self.now.cursor.rest.now) c.if-budget-eq0.true c.too_deep.ensures

pub unary-returns-in_err-number-clause-halts : goal.unary-returns-in_err-number-clause-halts
unary-returns-in_err-number-clause-halts t c =
    let h = negative_stops c.args.budget c.in_err-number.field-0.0 (left c.args.self.now.cursor.rest.now) (left c.negative.new.self.cursor.rest.now) (omega arith) c.in_err-number.ensures.refused in
    at_error _ c.in_err-number.field-0.0 _ c.from_residual.ensures.1 h

pub unary-returns-in-Some-clause-goes : goal.unary-returns-in-Some-clause-goes
unary-returns-in-Some-clause-goes t c =
    let n = rw c.in-Some.is at c.in_ok-number.ensures.taken in
    let m = rw c.in-Some.is at c.in_ok-number.ensures.found in
    let one : c.in-Some.number.depth ≡ 1 = m.1 in
    if_ok_both c.calls.result (λ m. c.in-Some.number.depth ≤ m.depth)
    (λ m. Moves (λ b. Calls b ∷ []) (λ b. []) c.in-Some.number.depth m.depth (left c.negative.new.self.cursor.rest.now) (left c.calls.new.self.cursor.rest.now))
    (λ m. Goes Unary (λ b. []) m.depth (left c.args.self.now.cursor.rest.now) (left c.calls.new.self.cursor.rest.now))
    (λ m h g. negative_moves c.in-Some.number.depth m.depth (left c.args.self.now.cursor.rest.now) (left
    c.negative.new.self.cursor.rest.now) (left c.calls.new.self.cursor.rest.now) one (omega (arith, one, h)) n g)
    c.calls.ensures.deeper c.calls.ensures.goes

pub unary-returns-in-Some-clause-halts : goal.unary-returns-in-Some-clause-halts
unary-returns-in-Some-clause-halts t c =
    let n = rw c.in-Some.is at c.in_ok-number.ensures.taken in
    let m = rw c.in-Some.is at c.in_ok-number.ensures.found in
    let some : 1 ≤ c.args.budget = omega arith in
    if_err_weaker c.calls.result (λ e. Stays (Calls c.args.budget ∷ []) c.in-Some.number.depth (reason_of e) (left c.negative.new.self.cursor.rest.now) (left c.calls.new.self.cursor.rest.now))
    (λ e. Halts (Unary c.args.budget) (reason_of e) (left c.args.self.now.cursor.rest.now) (left c.calls.new.self.cursor.rest.now))
    (λ e s. negative_halts c.args.budget c.in-Some.number.depth (reason_of e) (left c.args.self.now.cursor.rest.now) (left c.negative.new.self.cursor.rest.now)
    (left c.calls.new.self.cursor.rest.now) some m.1 n s) c.calls.ensures.halts

pub unary-returns-in_err-at-clause-halts : goal.unary-returns-in_err-at-clause-halts
unary-returns-in_err-at-clause-halts t c =
    let same = rw c.in_default.is at c.in_ok-number.ensures.found in
    let e = by_rows c.prefix.new.self.cursor c.negative.new.self.cursor (λ r. left r.rest.now) c.in_err-at.ensures.refused in
    let s = prefix_stops c.args.budget c.in_err-at.field-0.0 (left c.negative.new.self.cursor.rest.now) (left c.prefix.new.self.cursor.rest.now) e in
    let h = subst (λ (x : Row). Halts (Unary c.args.budget) (reason_of c.in_err-at.field-0.0) x (left c.prefix.new.self.cursor.rest.now)) (ap (λ r. left r.rest.now) same.0) s in
    at_error _ c.in_err-at.field-0.0 _ c.from_residual-in_err-at.ensures.1 h

pub unary-returns-in_err-inner-clause-halts : goal.unary-returns-in_err-inner-clause-halts
unary-returns-in_err-inner-clause-halts t c =
    let same = rw c.in_default.is at c.in_ok-number.ensures.found in
    let b = rw c.in-Some-2.is at c.in_ok-at.ensures.found in
    let w = rw c.in-Some-2.is at c.in_ok-at.ensures.within in
    let g = subst (λ (x : Row). StandsBefore c.in-Some-2.prefix c.in-Some-2.at x (left c.prefix.new.self.cursor.rest.now)) (ap (λ r. left r.rest.now) same.0) b in
    let h = inner_halts c.in-Some-2.prefix c.in-Some-2.at c.args.budget (reason_of c.in_err-inner.field-0.0) (left c.args.self.now.cursor.rest.now) (left c.prefix.new.self.cursor.rest.now)
    (left c.unary.new.self.cursor.rest.now)
    (omega arith) w g c.in_err-inner.ensures.halts in
    at_error _ c.in_err-inner.field-0.0 _ c.from_residual-in_err-inner.ensures.1 h

pub unary-returns-in-Some-2-clause-goes : goal.unary-returns-in-Some-2-clause-goes
unary-returns-in-Some-2-clause-goes t c =
    let same = rw c.in_default.is at c.in_ok-number.ensures.found in
    let b = rw c.in-Some-2.is at c.in_ok-at.ensures.found in
    let g = subst (λ (x : Row). StandsBefore c.in-Some-2.prefix c.in-Some-2.at x (left c.prefix.new.self.cursor.rest.now)) (ap (λ r. left r.rest.now) same.0) b in
    let d = c.in_ok-inner.ensures.found.2 in
    let n = deep (expr_view c.in_ok-inner.inner.expr) in
    prefix_goes c.in-Some-2.prefix c.in-Some-2.at c.in_ok-inner.inner.depth _ (left c.args.self.now.cursor.rest.now) (left c.prefix.new.self.cursor.rest.now) (left c.unary.new.self.cursor.rest.now)
    (omega (arith, d, n)) c.in_ok-prefixed.ensures.depth g c.in_ok-inner.ensures.goes

pub unary-returns-in_err-first-clause-halts : goal.unary-returns-in_err-first-clause-halts
unary-returns-in_err-first-clause-halts t c =
    let same = rw c.in_default.is at c.in_ok-number.ensures.found in
    let found = rw c.in_default-2.is at c.in_ok-at.ensures.found in
    let none = rw c.in_default-2.is at c.in_ok-at.ensures.none in
    let here : left c.negative.new.self.cursor.rest.now ≡ left c.args.self.now.cursor.rest.now = ap (λ r. left r.rest.now) same.0 in
    let rows : left c.prefix.new.self.cursor.rest.now ≡ left c.args.self.now.cursor.rest.now = ap (λ r. left r.rest.now) found.0 ∙ here in
    let plain : IsPlain (left c.args.self.now.cursor.rest.now) = subst (λ (x : Row). IsPlain x) here (record { minus = found.1; mark = none.0; cast = none.1 }) in
    let s = subst (λ (x : Row). Halts (want.Primary c.args.budget) (reason_of c.in_err-first.field-0.0) x (left c.primary.new.self.cursor.rest.now)) rows c.in_err-first.ensures.halts in
    at_error _ c.in_err-first.field-0.0 _ c.from_residual-in_err-first.ensures.1 (primary_halts c.args.budget (reason_of c.in_err-first.field-0.0) (left c.args.self.now.cursor.rest.now)
    (left c.primary.new.self.cursor.rest.now) plain s)

pub unary-returns-clause-goes : goal.unary-returns-clause-goes
unary-returns-clause-goes t c =
    let same = rw c.in_default.is at c.in_ok-number.ensures.found in
    let found = rw c.in_default-2.is at c.in_ok-at.ensures.found in
    let none = rw c.in_default-2.is at c.in_ok-at.ensures.none in
    let here : left c.negative.new.self.cursor.rest.now ≡ left c.args.self.now.cursor.rest.now = ap (λ r. left r.rest.now) same.0 in
    let rows : left c.prefix.new.self.cursor.rest.now ≡ left c.args.self.now.cursor.rest.now = ap (λ r. left r.rest.now) found.0 ∙ here in
    let plain : IsPlain (left c.args.self.now.cursor.rest.now) = subst (λ (x : Row). IsPlain x) here (record { minus = found.1; mark = none.0; cast = none.1 }) in
    let g = subst (λ (x : Row). Goes want.Primary (λ b. []) c.in_ok-first.first.depth x (left c.primary.new.self.cursor.rest.now)) rows c.in_ok-first.ensures.goes in
    if_ok_both c.calls-2.result (λ m. c.in_ok-first.first.depth ≤ m.depth)
    (λ m. Moves (λ b. Calls b ∷ []) (λ b. []) c.in_ok-first.first.depth m.depth (left c.primary.new.self.cursor.rest.now) (left c.calls-2.new.self.cursor.rest.now))
    (λ m. Goes Unary (λ b. []) m.depth (left c.args.self.now.cursor.rest.now) (left c.calls-2.new.self.cursor.rest.now))
    (λ m h s. post_goes c.in_ok-first.first.depth m.depth (left c.args.self.now.cursor.rest.now) (left c.primary.new.self.cursor.rest.now) (left c.calls-2.new.self.cursor.rest.now) h plain g s)
    c.calls-2.ensures.deeper c.calls-2.ensures.goes

pub unary-returns-clause-halts : goal.unary-returns-clause-halts
unary-returns-clause-halts t c =
    let same = rw c.in_default.is at c.in_ok-number.ensures.found in
    let found = rw c.in_default-2.is at c.in_ok-at.ensures.found in
    let none = rw c.in_default-2.is at c.in_ok-at.ensures.none in
    let here : left c.negative.new.self.cursor.rest.now ≡ left c.args.self.now.cursor.rest.now = ap (λ r. left r.rest.now) same.0 in
    let rows : left c.prefix.new.self.cursor.rest.now ≡ left c.args.self.now.cursor.rest.now = ap (λ r. left r.rest.now) found.0 ∙ here in
    let plain : IsPlain (left c.args.self.now.cursor.rest.now) = subst (λ (x : Row). IsPlain x) here (record { minus = found.1; mark = none.0; cast = none.1 }) in
    let g = subst (λ (x : Row). Goes want.Primary (λ b. []) c.in_ok-first.first.depth x (left c.primary.new.self.cursor.rest.now)) rows c.in_ok-first.ensures.goes in
    if_err_weaker c.calls-2.result (λ e. Stays (Calls c.args.budget ∷ []) c.in_ok-first.first.depth (reason_of e) (left c.primary.new.self.cursor.rest.now) (left c.calls-2.new.self.cursor.rest.now))
    (λ e. Halts (Unary c.args.budget) (reason_of e) (left c.args.self.now.cursor.rest.now) (left c.calls-2.new.self.cursor.rest.now))
    (λ e s. calls_halt c.args.budget c.in_ok-first.first.depth (reason_of e) (left c.args.self.now.cursor.rest.now) (left c.primary.new.self.cursor.rest.now)
    (left c.calls-2.new.self.cursor.rest.now) c.in_ok-first.ensures.depth plain g s)
    c.calls-2.ensures.halts

-- ---- where primaries, calls and arguments go and halt

pub calls-returns-clause-goes : goal.calls-returns-clause-goes
calls-returns-clause-goes t c =
    let b = rw c.in_default.is at c.in_ok-takes_within.ensures.found in
    calls_done c.args.first.depth c.loop-self.receiver.depth _ _ _ c.loop-self.invariant.2 (ap (λ r. left r.rest.now) b.0) b.1

pub calls-returns-in_err-takes_within-clause-halts : goal.calls-returns-in_err-takes_within-clause-halts
calls-returns-in_err-takes_within-clause-halts t c =
    let i = c.loop-self.invariant in
    let e = c.in_err-takes_within.ensures.refused in
    let p = err_from_is_err_and c.from_residual.result c.from_residual.ensures.1 in
    rw (p.1, p.2) (calls_too_deep c.args.budget c.args.first.depth c.loop-self.receiver.depth _ (left c.args.self.now.cursor.rest.now) (left c.loop-self.self.cursor.rest.now)
    (left c.takes_within.new.self.cursor.rest.now)
    i.2 i.0 e.0 e.2 e.3 (ap (λ r. left r.rest.now) e.1))

pub calls-returns-in_err-name-clause-halts : goal.calls-returns-in_err-name-clause-halts
calls-returns-in_err-name-clause-halts t c =
    let i = c.loop-self.invariant in
    let b = rw c.in-Some.is at c.in_ok-takes_within.ensures.found in
    let p = err_from_is_err_and c.from_residual-in_err-name.result c.from_residual-in_err-name.ensures.1 in
    rw (p.1, p.2) (calls_no_name c.args.budget c.args.first.depth c.loop-self.receiver.depth _ _ (left c.args.self.now.cursor.rest.now) (left c.loop-self.self.cursor.rest.now)
    (left c.takes_within.new.self.cursor.rest.now) (left c.name.new.self.cursor.rest.now)
    i.2 b.1 b.0 c.in_err-name.ensures.missing)

pub calls-returns-in_err-arguments-clause-halts : goal.calls-returns-in_err-arguments-clause-halts
calls-returns-in_err-arguments-clause-halts t c =
    let i = c.loop-self.invariant in
    let b = rw c.in-Some.is at c.in_ok-takes_within.ensures.found in
    let h = rw c.as_str.ensures.value at c.in_err-arguments.ensures.halts in
    let p = err_from_is_err_and c.from_residual-in_err-arguments.result c.from_residual-in_err-arguments.ensures.1 in
    rw (p.1, p.2) (calls_arguments c.args.budget c.args.first.depth c.loop-self.receiver.depth _ (word_view c.in_ok-name.name) _ (left c.args.self.now.cursor.rest.now)
    (left c.loop-self.self.cursor.rest.now) (left c.takes_within.new.self.cursor.rest.now)
    (left c.name.new.self.cursor.rest.now) (left c.arguments.new.self.cursor.rest.now) i.2 b.1 b.0 c.in_ok-name.ensures.found h)

pub arguments-loop-items-init : goal.arguments-loop-items-init
arguments-loop-items-init t c =
    let n = c.new-items.ensures.items in
    let o = c.in_ok-opens.ensures.found in
    let s = c.if-skips.ensures in (
      omega arith,
      ap (λ (v : List _). deepest (to_exprs (map expr_view v))) (sym n),
      subst (λ (v : List _). Wanted (map expr_view v) (left c.skips.new.self.cursor.rest.now) (left c.skips.new.self.cursor.rest.now)) (sym n) (wanted_first (left c.skips.new.self.cursor.rest.now)),
      among_start _ (left c.skips.new.self.cursor.rest.now) (left c.opens.new.self.cursor.rest.now) (ap (λ r. left r.rest.now) s.0) s.1 o.1,
    )

pub arguments-returns-in_err-opens-clause-halts : goal.arguments-returns-in_err-opens-clause-halts
arguments-returns-in_err-opens-clause-halts t c =
    let p = err_from_is_err_and c.from_residual.result c.from_residual.ensures.1 in
    rw (p.1, p.2) (not_opened c.args.name.now c.args.budget _ (left c.args.self.now.cursor.rest.now) (left c.opens.new.self.cursor.rest.now) c.in_err-opens.ensures.missing)

pub arguments-returns-then-skips-clause-goes : goal.arguments-returns-then-skips-clause-goes
arguments-returns-then-skips-clause-goes t c =
    let o = c.in_ok-opens.ensures.found in
    let s = c.if-skips.ensures in
    arguments_go (bytes_eq c.args.name.now (codes "getChild")) o.0.0 0 _ _ _ o.0.1 (no_arguments_go (bytes_eq c.args.name.now (codes "getChild")) s.0 _ _ s.1)

pub arguments-returns-in_err-next-clause-halts : goal.arguments-returns-in_err-next-clause-halts
arguments-returns-in_err-next-clause-halts t c =
    let i = c.loop-items.invariant in
    let g = bytes_eq c.args.name.now (codes "getChild") in
    let o = c.in_ok-opens.ensures.found.0 in
    let same = sym (ap (λ r. sign (codes "(") o.0 ∷ left r.rest.now) c.if-skips.ensures.0) in
    let p = err_from_is_err_and c.from_residual-in_err-next.result c.from_residual-in_err-next.ensures.1 in
    rw (p.1, p.2) (arguments_halt g c.args.budget _ o.0 (left c.args.self.now.cursor.rest.now) (left c.skips.new.self.cursor.rest.now) (left c.expression.new.self.cursor.rest.now) (o.1 ∙ same)
    (among_halts g c.args.budget c.loop-items.depth _ (left c.skips.new.self.cursor.rest.now) (left c.loop-items.self.cursor.rest.now) (left c.expression.new.self.cursor.rest.now) i.3 i.0
    c.in_err-next.ensures.halts))

pub arguments-returns-then-skips-2-clause-goes : goal.arguments-returns-then-skips-2-clause-goes
arguments-returns-then-skips-2-clause-goes t c =
    let g = bytes_eq c.args.name.now (codes "getChild") in
    let o = c.in_ok-opens.ensures.found.0 in
    let s = c.if-skips-2.ensures in
    let same = sym (ap (λ r. sign (codes "(") o.0 ∷ left r.rest.now) c.if-skips.ensures.0) in
    arguments_go g o.0 c.max-depth.result (left c.args.self.now.cursor.rest.now) (left c.skips.new.self.cursor.rest.now) (left c.skips-in-loop-items.new.self.cursor.rest.now) (o.1 ∙ same)
    (among_end g c.loop-items.depth c.in_ok-next.next.depth c.max-depth.result s.0 _ _ _ _ c.loop-items.invariant.3 c.in_ok-next.ensures.goes s.1 c.max-depth.ensures)

pub arguments-returns-in_err-expects-clause-halts : goal.arguments-returns-in_err-expects-clause-halts
arguments-returns-in_err-expects-clause-halts t c =
    let i = c.loop-items.invariant in
    let g = bytes_eq c.args.name.now (codes "getChild") in
    let o = c.in_ok-opens.ensures.found.0 in
    let s = c.if-skips-2.ensures in
    let same = sym (ap (λ r. sign (codes "(") o.0 ∷ left r.rest.now) c.if-skips.ensures.0) in
    let p = err_from_is_err_and c.from_residual-in_err-expects.result c.from_residual-in_err-expects.ensures.1 in
    rw (p.1, p.2) (arguments_halt g c.args.budget _ o.0 (left c.args.self.now.cursor.rest.now) (left c.skips.new.self.cursor.rest.now) (left c.expects.new.self.cursor.rest.now) (o.1 ∙ same)
    (among_no_comma g c.args.budget c.loop-items.depth c.in_ok-next.next.depth _ (left c.skips.new.self.cursor.rest.now)
    (left c.loop-items.self.cursor.rest.now) (left c.expression.new.self.cursor.rest.now)
    (left c.skips-in-loop-items.new.self.cursor.rest.now)
    (left c.expects.new.self.cursor.rest.now) i.3 c.in_ok-next.ensures.goes i.0 c.in_ok-next.ensures.depth s.1 (ap (λ r. left r.rest.now) s.0) c.in_err-expects.ensures.missing))

pub primary-returns-in_err-literal-clause-halts : goal.primary-returns-in_err-literal-clause-halts
primary-returns-in_err-literal-clause-halts t c =
    let p = err_from_is_err_and c.from_residual.result c.from_residual.ensures.1 in
    rw (p.1, p.2) (literal_missing c.args.budget _ (left c.args.self.now.cursor.rest.now) (left c.literal.new.self.cursor.rest.now) c.in_err-literal.ensures.refused)

pub primary-returns-in-Some-clause-goes : goal.primary-returns-in-Some-clause-goes
primary-returns-in-Some-clause-goes t c =
    let f = rw c.in-Some.is at c.in_ok-literal.ensures.found in
    subst (λ (x : ℕ). Goes want.Primary (λ b. []) x (left c.args.self.now.cursor.rest.now) (left c.literal.new.self.cursor.rest.now)) (sym f.1)
    (literal_taken (expr_view c.in-Some.literal.expr) _ _ f.0.0 (sym f.0.2 ∙ f.1) f.2)

pub primary-returns-in_err-at-clause-halts : goal.primary-returns-in_err-at-clause-halts
primary-returns-in_err-at-clause-halts t c =
    let l = rw c.in_default.is at c.in_ok-literal.ensures.found in
    let e = c.in_err-at.ensures.refused in
    let p = err_from_is_err_and c.from_residual-in_err-at.result c.from_residual-in_err-at.ensures.1 in
    rw (p.1, p.2) (paren_too_deep c.args.budget _ (left c.args.self.now.cursor.rest.now) (left c.takes_within.new.self.cursor.rest.now) e.0
    (sym (ap (λ r. next_is (is_sign (codes "(")) (left r.rest.now)) l.0) ∙ e.2) e.3 (ap (λ r. left r.rest.now) (e.1 ∙ l.0)))

pub primary-returns-in_err-inner-clause-halts : goal.primary-returns-in_err-inner-clause-halts
primary-returns-in_err-inner-clause-halts t c =
    let l = rw c.in_default.is at c.in_ok-literal.ensures.found in
    let b = rw c.in-Some-2.is at c.in_ok-at.ensures.found in
    let p = err_from_is_err_and c.from_residual-in_err-inner.result c.from_residual-in_err-inner.ensures.1 in
    rw (p.1, p.2) (paren_halts c.args.budget _ _ (left c.args.self.now.cursor.rest.now) (left c.takes_within.new.self.cursor.rest.now) (left c.expression.new.self.cursor.rest.now) b.1
    (sym (ap (λ r. left r.rest.now) l.0) ∙ b.0) c.in_err-inner.ensures.halts)

pub primary-returns-in_err-expects-clause-halts : goal.primary-returns-in_err-expects-clause-halts
primary-returns-in_err-expects-clause-halts t c =
    let l = rw c.in_default.is at c.in_ok-literal.ensures.found in
    let b = rw c.in-Some-2.is at c.in_ok-at.ensures.found in
    let p = err_from_is_err_and c.from_residual-in_err-expects.result c.from_residual-in_err-expects.ensures.1 in
    rw (p.1, p.2) (paren_open c.args.budget c.in_ok-inner.inner.depth _ _ (left c.args.self.now.cursor.rest.now)
    (left c.takes_within.new.self.cursor.rest.now) (left c.expression.new.self.cursor.rest.now)
    (left c.expects.new.self.cursor.rest.now)
    b.1 (sym (ap (λ r. left r.rest.now) l.0) ∙ b.0) c.in_ok-inner.ensures.goes c.in_ok-inner.ensures.depth c.in_err-expects.ensures.missing)

pub primary-returns-in-Some-2-clause-goes : goal.primary-returns-in-Some-2-clause-goes
primary-returns-in-Some-2-clause-goes t c =
    let l = rw c.in_default.is at c.in_ok-literal.ensures.found in
    let b = rw c.in-Some-2.is at c.in_ok-at.ensures.found in
    let some = subst (λ (x : ℕ). 1 ≤ x) (sym c.in_ok-inner.ensures.found.2) (deep (expr_view c.in_ok-inner.inner.expr)) in
    subst (λ (x : ℕ). Goes want.Primary (λ b. []) x (left c.args.self.now.cursor.rest.now) (left c.expects.new.self.cursor.rest.now)) (sym c.in_ok-parenthesized.ensures.depth)
    (paren_goes _ _ c.in_ok-inner.inner.depth (left c.args.self.now.cursor.rest.now)
    (left c.takes_within.new.self.cursor.rest.now) (left c.expression.new.self.cursor.rest.now)
    (left c.expects.new.self.cursor.rest.now)
    some (sym (ap (λ r. left r.rest.now) l.0) ∙ b.0) c.in_ok-inner.ensures.goes c.in_ok-expects.ensures.found)

pub primary-returns-in_err-at-2-clause-halts : goal.primary-returns-in_err-at-2-clause-halts
primary-returns-in_err-at-2-clause-halts t c =
    let l = rw c.in_default.is at c.in_ok-literal.ensures.found in
    let b = rw c.in_default-2.is at c.in_ok-at.ensures.found in
    let e = c.in_err-at-2.ensures.refused in
    let same = b.0 ∙ l.0 in
    let p = err_from_is_err_and c.from_residual-in_err-at-2.result c.from_residual-in_err-at-2.ensures.1 in
    rw (p.1, p.2) (fold_too_deep c.args.budget _ (left c.args.self.now.cursor.rest.now) (left c.fold_word.new.self.cursor.rest.now) e.0 (no_literal (left c.args.self.now.cursor.rest.now) l.1)
    (sym (ap (λ r. next_is (is_sign (codes "(")) (left r.rest.now)) l.0) ∙ b.1) (sym (ap (λ r. next_is begins_fold (left r.rest.now)) same) ∙ e.3) e.2 (ap (λ r. left r.rest.now) (e.1 ∙ same)))

pub primary-returns-in-Some-3-clause-halts : goal.primary-returns-in-Some-3-clause-halts
primary-returns-in-Some-3-clause-halts t c =
    let l = rw c.in_default.is at c.in_ok-literal.ensures.found in
    let b = rw c.in_default-2.is at c.in_ok-at.ensures.found in
    let f = rw c.in-Some-3.is at c.in_ok-at-2.ensures.found in
    fold_here _ c.args.budget _ (left c.args.self.now.cursor.rest.now) (left c.fold_word.new.self.cursor.rest.now)
    (left c.fold.new.self.cursor.rest.now) (sym (ap (λ r. left r.rest.now) (b.0 ∙ l.0)) ∙ f.1)
    c.fold.ensures.halts

pub primary-returns-clause-halts : goal.primary-returns-clause-halts
primary-returns-clause-halts t c =
    let l = rw c.in_default.is at c.in_ok-literal.ensures.found in
    let b = rw c.in_default-2.is at c.in_ok-at.ensures.found in
    let f = rw c.in_default-3.is at c.in_ok-at-2.ensures.found in
    let none = rw c.in_default-3.is at c.in_ok-at-2.ensures.none in
    let same = b.0 ∙ l.0 in
    let other : IsOther (left c.args.self.now.cursor.rest.now) = (
      no_literal (left c.args.self.now.cursor.rest.now) l.1,
      sym (ap (λ r. next_is (is_sign (codes "(")) (left r.rest.now)) l.0) ∙ b.1,
      sym (ap (λ r. next_is begins_fold (left r.rest.now)) same) ∙ none,
    ) in
    named_here _ c.args.budget (left c.args.self.now.cursor.rest.now) (left c.fold_word.new.self.cursor.rest.now) (left c.named.new.self.cursor.rest.now) (ap (λ r. left r.rest.now) (f ∙ same)) other
    c.named.ensures.halts

pub named-returns-in_err-name-clause-halts : goal.named-returns-in_err-name-clause-halts
named-returns-in_err-name-clause-halts t c =
    let p = err_from_is_err_and c.from_residual.result c.from_residual.ensures.1 in
    rw (p.1, p.2) (λ o. primary_missing c.args.budget _ (left c.args.self.now.cursor.rest.now) (left c.name.new.self.cursor.rest.now) o c.in_err-name.ensures.missing)

pub named-returns-then-not-is_before_sign-clause-goes : goal.named-returns-then-not-is_before_sign-clause-goes
named-returns-then-not-is_before_sign-clause-goes t c =
    subst (λ (x : ℕ). Goes want.Primary (λ b. []) x (left c.args.self.now.cursor.rest.now) (left c.name.new.self.cursor.rest.now)) (sym c.leaf.ensures.depth)
    (plain_name (word_view c.in_ok-name.name) _ _ c.in_ok-name.ensures.found (sym c.if-not-is_before_sign.ensures))

pub named-returns-in_err-arguments-clause-halts : goal.named-returns-in_err-arguments-clause-halts
named-returns-in_err-arguments-clause-halts t c =
    let h = rw c.as_str.ensures.value at c.in_err-arguments.ensures.halts in
    let p = err_from_is_err_and c.from_residual-in_err-arguments.result c.from_residual-in_err-arguments.ensures.1 in
    rw (p.1, p.2) (λ o. named_halts (word_view c.in_ok-name.name) c.args.budget
    _ (left c.args.self.now.cursor.rest.now) (left c.name.new.self.cursor.rest.now)
    (left c.arguments.new.self.cursor.rest.now)
    c.requires.some c.in_ok-name.ensures.found (sym c.if-not-is_before_sign.ensures) h)

pub named-returns-clause-goes : goal.named-returns-clause-goes
named-returns-clause-goes t c =
    let a = c.in_ok-arguments.ensures in
    let g = subst (λ (x : List ℕ). Goes (want.Arguments (bytes_eq x (codes "getChild"))) (λ b. []) c.in_ok-arguments.arguments.depth (left c.name.new.self.cursor.rest.now)
    (left c.arguments.new.self.cursor.rest.now))
    c.as_str.ensures.value a.goes in
    subst (λ (x : ℕ). Goes want.Primary (λ b. []) x (left c.args.self.now.cursor.rest.now) (left c.arguments.new.self.cursor.rest.now)) (sym c.call.ensures.depth)
    (named_goes (word_view c.in_ok-name.name) c.in_ok-arguments.arguments.depth _ _ _ c.in_ok-name.ensures.found (sym c.if-not-is_before_sign.ensures) g)

pub fold-returns-in_err-expects-clause-halts : goal.fold-returns-in_err-expects-clause-halts
fold-returns-in_err-expects-clause-halts t c =
    let p = err_from_is_err_and c.from_residual.result c.from_residual.ensures.1 in
    rw (p.1, p.2) (λ old w d. reach_halts (want.Mark (codes "(")) _ (left c.expects.new.self.cursor.rest.now)
    (fold_opens (fold_view c.args.form) c.args.at c.args.budget d old (left c.args.self.now.cursor.rest.now) c.requires.some w)
    (mark_missing (codes "(") _ _ _ c.in_err-expects.ensures.missing))

pub fold-returns-in_err-name-clause-halts : goal.fold-returns-in_err-name-clause-halts
fold-returns-in_err-name-clause-halts t c =
    let p = err_from_is_err_and c.from_residual-in_err-name.result c.from_residual-in_err-name.ensures.1 in
    rw (p.1, p.2) (λ old w d. reach_halts want.Name _ (left c.name.new.self.cursor.rest.now)
    (reach_sign (codes "(") _ (left c.expects.new.self.cursor.rest.now) (fold_opens (fold_view c.args.form) c.args.at c.args.budget d old (left c.args.self.now.cursor.rest.now) c.requires.some w)
    c.in_ok-expects.ensures.found)
    (name_missing _ _ _ c.in_err-name.ensures.missing))

pub fold-returns-in_err-expects-2-clause-halts : goal.fold-returns-in_err-expects-2-clause-halts
fold-returns-in_err-expects-2-clause-halts t c =
    let p = err_from_is_err_and c.from_residual-in_err-expects-2.result c.from_residual-in_err-expects-2.ensures.1 in
    rw (p.1, p.2) (λ old w d. reach_halts (want.Mark (codes ":")) _ (left c.expects-2.new.self.cursor.rest.now)
    (reach_name (word_view c.in_ok-name.name) (left c.name.new.self.cursor.rest.now)
    (reach_sign (codes "(") _ (left c.expects.new.self.cursor.rest.now) (fold_opens (fold_view c.args.form) c.args.at c.args.budget d old (left c.args.self.now.cursor.rest.now) c.requires.some w)
    c.in_ok-expects.ensures.found) c.in_ok-name.ensures.found)
    (mark_missing (codes ":") _ _ _ c.in_err-expects-2.ensures.missing))

pub fold-returns-in_err-list-clause-halts : goal.fold-returns-in_err-list-clause-halts
fold-returns-in_err-list-clause-halts t c =
    let p = err_from_is_err_and c.from_residual-in_err-list.result c.from_residual-in_err-list.ensures.1 in
    rw (p.1, p.2) (λ old w d. reach_halts (want.Primary (c.args.budget - 1)) _ (left c.primary.new.self.cursor.rest.now)
    (fold_list (fold_view c.args.form) c.args.at _ _ (word_view c.in_ok-name.name) c.args.budget d old _ _ _ _ c.requires.some w c.in_ok-expects.ensures.found c.in_ok-name.ensures.found
    c.in_ok-expects-2.ensures.found)
    c.in_err-list.ensures.halts)

pub fold-returns-in_err-list-2-clause-halts : goal.fold-returns-in_err-list-2-clause-halts
fold-returns-in_err-list-2-clause-halts t c =
    let p = err_from_is_err_and c.from_residual-in_err-list-2.result c.from_residual-in_err-list-2.ensures.1 in
    rw (p.1, p.2) (λ old w d. reach_stays (want.Calls (c.args.budget - 1)) _ (left c.calls.new.self.cursor.rest.now)
    (reach_goes want.Primary (c.args.budget - 1) c.in_ok-list.list.depth (left c.primary.new.self.cursor.rest.now)
    (fold_list (fold_view c.args.form) c.args.at _ _ (word_view c.in_ok-name.name) c.args.budget d old _ _ _ _ c.requires.some w c.in_ok-expects.ensures.found c.in_ok-name.ensures.found
    c.in_ok-expects-2.ensures.found)
    c.in_ok-list.ensures.goes c.in_ok-list.ensures.depth) c.in_err-list-2.ensures.halts)

pub fold-returns-in_err-expects-3-clause-halts : goal.fold-returns-in_err-expects-3-clause-halts
fold-returns-in_err-expects-3-clause-halts t c =
    let p = err_from_is_err_and c.from_residual-in_err-expects-3.result c.from_residual-in_err-expects-3.ensures.1 in
    rw (p.1, p.2) (λ old w d. reach_halts (want.Mark (codes ")")) _ (left c.expects-3.new.self.cursor.rest.now)
    (fold_close c.args.budget c.in_ok-list.list.depth c.in_ok-list-2.list.depth (left c.primary.new.self.cursor.rest.now) (left c.calls.new.self.cursor.rest.now)
    (fold_list (fold_view c.args.form) c.args.at _ _ (word_view c.in_ok-name.name) c.args.budget d old _ _ _ _ c.requires.some w c.in_ok-expects.ensures.found c.in_ok-name.ensures.found
    c.in_ok-expects-2.ensures.found)
    c.in_ok-list.ensures.goes c.in_ok-list.ensures.depth c.in_ok-list-2.ensures.goes c.in_ok-list-2.ensures.depth)
    (mark_missing (codes ")") _ _ _ c.in_err-expects-3.ensures.missing))

pub fold-returns-in_err-expects-4-clause-halts : goal.fold-returns-in_err-expects-4-clause-halts
fold-returns-in_err-expects-4-clause-halts t c =
    let p = err_from_is_err_and c.from_residual-in_err-expects-4.result c.from_residual-in_err-expects-4.ensures.1 in
    rw (p.1, p.2) (λ old w d. reach_halts (want.FoldBody c.args.budget) _ (left c.expects-4.new.self.cursor.rest.now)
    (reach_sign (codes ")") _ (left c.expects-3.new.self.cursor.rest.now)
    (fold_close c.args.budget c.in_ok-list.list.depth c.in_ok-list-2.list.depth (left c.primary.new.self.cursor.rest.now) (left c.calls.new.self.cursor.rest.now)
    (fold_list (fold_view c.args.form) c.args.at _ _ (word_view c.in_ok-name.name) c.args.budget d old _ _ _ _ c.requires.some w c.in_ok-expects.ensures.found c.in_ok-name.ensures.found
    c.in_ok-expects-2.ensures.found)
    c.in_ok-list.ensures.goes c.in_ok-list.ensures.depth c.in_ok-list-2.ensures.goes c.in_ok-list-2.ensures.depth)
    c.in_ok-expects-3.ensures.found)
    (brace_missing c.args.budget _ _ _ c.in_err-expects-4.ensures.missing))

pub fold-returns-in_err-body-clause-halts : goal.fold-returns-in_err-body-clause-halts
fold-returns-in_err-body-clause-halts t c =
    let p = err_from_is_err_and c.from_residual-in_err-body.result c.from_residual-in_err-body.ensures.1 in
    rw (p.1, p.2) (λ old w d. reach_halts (want.Expression (c.args.budget - 1)) _ (left c.expression.new.self.cursor.rest.now)
    (fold_body c.args.budget _ _ (left c.expects-3.new.self.cursor.rest.now) (left c.expects-4.new.self.cursor.rest.now)
    (fold_close c.args.budget c.in_ok-list.list.depth c.in_ok-list-2.list.depth (left c.primary.new.self.cursor.rest.now) (left c.calls.new.self.cursor.rest.now)
    (fold_list (fold_view c.args.form) c.args.at _ _ (word_view c.in_ok-name.name) c.args.budget d old _ _ _ _ c.requires.some w c.in_ok-expects.ensures.found c.in_ok-name.ensures.found
    c.in_ok-expects-2.ensures.found)
    c.in_ok-list.ensures.goes c.in_ok-list.ensures.depth c.in_ok-list-2.ensures.goes c.in_ok-list-2.ensures.depth)
    c.in_ok-expects-3.ensures.found c.in_ok-expects-4.ensures.found)
    c.in_err-body.ensures.halts)

pub fold-returns-in_err-expects-5-clause-halts : goal.fold-returns-in_err-expects-5-clause-halts
fold-returns-in_err-expects-5-clause-halts t c =
    let p = err_from_is_err_and c.from_residual-in_err-expects-5.result c.from_residual-in_err-expects-5.ensures.1 in
    rw (p.1, p.2) (λ old w d. reach_halts (want.Mark (codes "}")) _ (left c.expects-5.new.self.cursor.rest.now)
    (reach_goes want.Expression (c.args.budget - 1) c.in_ok-body.body.depth (left c.expression.new.self.cursor.rest.now)
    (fold_body c.args.budget _ _ (left c.expects-3.new.self.cursor.rest.now) (left c.expects-4.new.self.cursor.rest.now)
    (fold_close c.args.budget c.in_ok-list.list.depth c.in_ok-list-2.list.depth (left c.primary.new.self.cursor.rest.now) (left c.calls.new.self.cursor.rest.now)
    (fold_list (fold_view c.args.form) c.args.at _ _ (word_view c.in_ok-name.name) c.args.budget d old _ _ _ _ c.requires.some w c.in_ok-expects.ensures.found c.in_ok-name.ensures.found
    c.in_ok-expects-2.ensures.found)
    c.in_ok-list.ensures.goes c.in_ok-list.ensures.depth c.in_ok-list-2.ensures.goes c.in_ok-list-2.ensures.depth)
    c.in_ok-expects-3.ensures.found c.in_ok-expects-4.ensures.found)
    c.in_ok-body.ensures.goes c.in_ok-body.ensures.depth)
    (mark_missing (codes "}") _ _ _ c.in_err-expects-5.ensures.missing))

pub fold-returns-clause-goes : goal.fold-returns-clause-goes
fold-returns-clause-goes t c = λ old w.
    let some = subst (λ (x : ℕ). 1 ≤ x) (sym c.in_ok-list.ensures.found.2) (deep (expr_view c.in_ok-list.list.expr)) in
    subst (λ (x : ℕ). Goes want.Primary (λ b. []) x old (left c.expects-5.new.self.cursor.rest.now)) (sym c.in_ok-fold.ensures.depth)
    (fold_done (fold_view c.args.form) c.args.at _ _ _ _ _ (word_view c.in_ok-name.name) c.in_ok-list.list.depth c.in_ok-list-2.list.depth c.in_ok-body.body.depth old _ _ _ _ _ _ _ _ _
    _ some c.in_ok-list-2.ensures.deeper
    w c.in_ok-expects.ensures.found c.in_ok-name.ensures.found c.in_ok-expects-2.ensures.found c.in_ok-list.ensures.goes c.in_ok-list-2.ensures.goes c.in_ok-expects-3.ensures.found
    c.in_ok-expects-4.ensures.found
    c.in_ok-body.ensures.goes c.in_ok-expects-5.ensures.found)
