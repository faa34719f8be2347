use Rattle.std.proofs.Common.{[], ◌∷◌}
use lib.Chars.{codes}
use Rattle.std.proofs.lemmas.Result.{err_from_is_err_and}
use Rattle.at_text.specs.Rows.{left}
use Rattle.at_jrag.specs.Runs.{reason_of}
use Rattle.at_jrag.specs.Wants as want
use Rattle.at_jrag.proofs.DeclarationStops.{word_taken, left_stays, start_stays, again_stays, brackets_stay}
use Rattle.at_jrag.proofs.reader.Reader.circular.Goals as goal

pub returns-in_err-not_circular-clause-stays : goal.returns-in_err-not_circular-clause-stays
returns-in_err-not_circular-clause-stays c =
    let p = err_from_is_err_and c.from_residual.result c.from_residual.ensures.1 in
    rw (p.1, p.2)
    (left_stays c.args.may_stand c.in_err-not_circular.field-0.0 (left c.args.self.now.cursor.rest.now)
    c.if-not-may_stand.true c.in_err-not_circular.ensures.refused.0 c.in_err-not_circular.ensures.refused.1)

pub returns-in_err-start-clause-stays : goal.returns-in_err-start-clause-stays
returns-in_err-start-clause-stays c =
    let w = word_taken c.args.self.now.cursor c.takes_word.new.self (λ r. left r.rest.now) (codes "circular") c.takes_word.result c.if-is_none.ensures c.takes_word.ensures in
    let p = err_from_is_err_and c.from_residual-in_err-start.result c.from_residual-in_err-start.ensures.1 in
    rw (p.1, p.2)
    (start_stays c.args.may_stand w.0 (reason_of c.in_err-start.field-0.0) (left c.args.self.now.cursor.rest.now) (left c.takes_word.new.self.rest.now) (left c.start.new.self.cursor.rest.now)
    c.if-not-may_stand.false w.1 (brackets_stay (want.Circular _ ∷ []) (reason_of c.in_err-start.field-0.0)
    (left c.takes_word.new.self.rest.now) (left c.start.new.self.cursor.rest.now) c.in_err-start.ensures.stays))

pub returns-in_err-not_circular-2-clause-stays : goal.returns-in_err-not_circular-2-clause-stays
returns-in_err-not_circular-2-clause-stays c =
    let w = word_taken c.args.self.now.cursor c.takes_word.new.self (λ r. left r.rest.now) (codes "circular") c.takes_word.result c.if-is_none.ensures c.takes_word.ensures in
    let p = err_from_is_err_and c.from_residual-in_err-not_circular-2.result c.from_residual-in_err-not_circular-2.ensures.1 in
    let e = c.in_err-not_circular-2.ensures.refused in
    rw (p.1, p.2)
    (start_stays c.args.may_stand w.0 (reason_of c.in_err-not_circular-2.field-0.0) (left c.args.self.now.cursor.rest.now) (left c.takes_word.new.self.rest.now) (left c.start.new.self.cursor.rest.now)
    c.if-not-may_stand.false w.1 (again_stays c.in_ok-start.start c.in_err-not_circular-2.field-0.0 (left
    c.takes_word.new.self.rest.now) (left c.start.new.self.cursor.rest.now) c.in_ok-start.ensures.found e.0 e.1))
