use Rattle.std.proofs.Common.{sym, ap, subst, ◌∙◌}
use lib.Chars.{codes}
use Rattle.std.proofs.lemmas.Result.{err_from_is_err_and}
use Rattle.at_text.specs.Rows.{Row, left, is_sign}
use Rattle.at_jrag.specs.Runs.{reason_of, Missing}
use Rattle.at_jrag.proofs.DeclarationStops.{word_taken, word_missing, no_body, equation_stays, equation_ends, no_return, block_stays, block_ends, no_close}
use Rattle.at_jrag.proofs.reader.Reader.body.Goals as goal

pub returns-in_err-expr-clause-stays : goal.returns-in_err-expr-clause-stays
returns-in_err-expr-clause-stays c =
    let p = err_from_is_err_and c.from_residual.result c.from_residual.ensures.1 in
    rw (p.1, p.2)
    (equation_stays c.in-Some.at (reason_of c.in_err-expr.field-0.0) (left c.args.self.now.cursor.rest.now) (left c.takes_sign.new.self.rest.now)
    (left c.expression.new.self.cursor.rest.now) c.in-Some.ensures c.in_err-expr.ensures.halts)

pub returns-in_err-expects-clause-stays : goal.returns-in_err-expects-clause-stays
returns-in_err-expects-clause-stays c =
    let p = err_from_is_err_and c.from_residual-in_err-expects.result c.from_residual-in_err-expects.ensures.1 in
    rw (p.1, p.2)
    (equation_ends c.in-Some.at _ c.in_err-expects.field-0.0 (left c.args.self.now.cursor.rest.now) (left c.takes_sign.new.self.rest.now) (left c.expression.new.self.cursor.rest.now)
    (left c.expects.new.self.cursor.rest.now) c.in-Some.ensures c.in_ok-expr.ensures.goes c.in_ok-expr.ensures.depth c.in_err-expects.ensures.missing)

pub returns-in_err-at-clause-stays : goal.returns-in_err-at-clause-stays
returns-in_err-at-clause-stays c =
    let n = c.in_default.ensures in
    let m = subst (λ (x : Row). Missing (is_sign (codes "{")) c.in_err-at.field-0.0 x (left c.expects-2.new.self.cursor.rest.now)) (ap (λ r. left r.rest.now) n.0) c.in_err-at.ensures.missing in
    let p = err_from_is_err_and c.from_residual-in_err-at.result c.from_residual-in_err-at.ensures.1 in
    rw (p.1, p.2) (no_body c.in_err-at.field-0.0 (left c.args.self.now.cursor.rest.now) (left c.expects-2.new.self.cursor.rest.now) n.1 m)

pub returns-then-is_none-clause-stays : goal.returns-then-is_none-clause-stays
returns-then-is_none-clause-stays c =
    let w = word_missing c.expects-2.new.self.cursor c.takes_word.new.self (λ r. left r.rest.now) (codes "return") c.takes_word.result c.if-is_none.ensures c.takes_word.ensures in
    rw c.no_block.ensures (no_return c.in_ok-at.at (left c.args.self.now.cursor.rest.now) (left c.expects-2.new.self.cursor.rest.now) (left c.takes_word.new.self.rest.now) (sym (ap
    (λ r. left r.rest.now) c.in_default.ensures.0) ∙ c.in_ok-at.ensures.found) w.0 w.1)

pub returns-in_err-expr-2-clause-stays : goal.returns-in_err-expr-2-clause-stays
returns-in_err-expr-2-clause-stays c =
    let k = word_taken c.expects-2.new.self.cursor c.takes_word.new.self (λ r. left r.rest.now) (codes "return") c.takes_word.result c.if-is_none.ensures c.takes_word.ensures in
    let p = err_from_is_err_and c.from_residual-in_err-expr-2.result c.from_residual-in_err-expr-2.ensures.1 in
    rw (p.1, p.2)
    (block_stays c.in_ok-at.at (reason_of c.in_err-expr-2.field-0.0) (left c.args.self.now.cursor.rest.now) (left c.expects-2.new.self.cursor.rest.now) (left c.takes_word.new.self.rest.now)
    (left c.expression-2.new.self.cursor.rest.now) (sym (ap (λ r. left r.rest.now) c.in_default.ensures.0) ∙ c.in_ok-at.ensures.found) k c.in_err-expr-2.ensures.halts)

pub returns-in_err-expects-2-clause-stays : goal.returns-in_err-expects-2-clause-stays
returns-in_err-expects-2-clause-stays c =
    let k = word_taken c.expects-2.new.self.cursor c.takes_word.new.self (λ r. left r.rest.now) (codes "return") c.takes_word.result c.if-is_none.ensures c.takes_word.ensures in
    let p = err_from_is_err_and c.from_residual-in_err-expects-2.result c.from_residual-in_err-expects-2.ensures.1 in rw (p.1, p.2)
    (block_ends c.in_ok-at.at _ c.in_err-expects-2.field-0.0 (left c.args.self.now.cursor.rest.now) (left c.expects-2.new.self.cursor.rest.now) (left c.takes_word.new.self.rest.now)
    (left c.expression-2.new.self.cursor.rest.now) (left c.expects-3.new.self.cursor.rest.now) (sym (ap
    (λ r. left r.rest.now) c.in_default.ensures.0) ∙ c.in_ok-at.ensures.found) k c.in_ok-expr-2.ensures.goes c.in_ok-expr-2.ensures.depth c.in_err-expects-2.ensures.missing)

pub returns-then-not-skips-clause-stays : goal.returns-then-not-skips-clause-stays
returns-then-not-skips-clause-stays c =
    let k = word_taken c.expects-2.new.self.cursor c.takes_word.new.self (λ r. left r.rest.now) (codes "return") c.takes_word.result c.if-is_none.ensures c.takes_word.ensures in
    let s = c.if-not-skips.ensures in
    rw c.no_block-then-not-skips.ensures
    (no_close c.in_ok-at.at _ (left c.args.self.now.cursor.rest.now) (left c.expects-2.new.self.cursor.rest.now) (left c.takes_word.new.self.rest.now) (left c.expression-2.new.self.cursor.rest.now)
    (left c.expects-3.new.self.cursor.rest.now) (left c.skips.new.self.cursor.rest.now) (sym (ap
    (λ r. left r.rest.now) c.in_default.ensures.0) ∙ c.in_ok-at.ensures.found) k c.in_ok-expr-2.ensures.goes
    c.in_ok-expr-2.ensures.depth (_, c.in_ok-expects-2.ensures.found) (ap (λ r. left r.rest.now) s.0) s.1)
