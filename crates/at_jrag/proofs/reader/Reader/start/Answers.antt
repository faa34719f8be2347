use Rattle.std.proofs.Common.{[], ◌∷◌}
use lib.Chars.{codes}
use Rattle.std.proofs.lemmas.Result.{err_from_is_err_and}
use Rattle.at_text.specs.Rows.{left}
use Rattle.at_jrag.specs.Runs.{reason_of}
use Rattle.at_jrag.specs.Wants as want
use Rattle.at_jrag.proofs.DeclarationStops.{no_bracket, bracket_stays, no_end}
use Rattle.at_jrag.proofs.reader.Reader.start.Goals as goal

pub returns-in_err-expects-clause-stays : goal.returns-in_err-expects-clause-stays
returns-in_err-expects-clause-stays c =
    let p = err_from_is_err_and c.from_residual.result c.from_residual.ensures.1 in
    rw (p.1, p.2)
    (no_bracket (want.Mark (codes "]") ∷ []) c.in_err-expects.field-0.0 (left c.args.self.now.cursor.rest.now) (left c.expects.new.self.cursor.rest.now) c.in_err-expects.ensures.missing)

pub returns-in_err-start-clause-stays : goal.returns-in_err-start-clause-stays
returns-in_err-start-clause-stays c =
    let p = err_from_is_err_and c.from_residual-in_err-start.result c.from_residual-in_err-start.ensures.1 in
    rw (p.1, p.2)
    (bracket_stays (want.Mark (codes "]") ∷ []) _ (reason_of c.in_err-start.field-0.0) (left c.args.self.now.cursor.rest.now) (left c.expects.new.self.cursor.rest.now)
    (left c.truth.new.self.cursor.rest.now) c.in_ok-expects.ensures.found c.in_err-start.ensures.stays)

pub returns-in_err-expects-2-clause-stays : goal.returns-in_err-expects-2-clause-stays
returns-in_err-expects-2-clause-stays c =
    let p = err_from_is_err_and c.from_residual-in_err-expects-2.result c.from_residual-in_err-expects-2.ensures.1 in
    rw (p.1, p.2)
    (no_end c.in_ok-start.start _ c.in_err-expects-2.field-0.0 (left c.args.self.now.cursor.rest.now) (left c.expects.new.self.cursor.rest.now)
    (left c.truth.new.self.cursor.rest.now) (left c.expects-2.new.self.cursor.rest.now) c.in_ok-expects.ensures.found c.in_ok-start.ensures.found c.in_err-expects-2.ensures.missing)
