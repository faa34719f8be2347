use Rattle.std.proofs.Common.{[], ap, subst}
use Rattle.std.proofs.lemmas.Result.{err_from_is_err_and}
use Rattle.at_text.specs.Rows.{Row, left}
use Rattle.at_jrag.specs.Runs.{reason_of}
use Rattle.at_jrag.proofs.DeclarationStops.{BodyStays, ending_stays}
use Rattle.at_jrag.proofs.reader.Reader.ending.Goals as goal

pub returns-in_err-body-in-None-clause-stays : goal.returns-in_err-body-in-None-clause-stays
returns-in_err-body-in-None-clause-stays c =
    let n = c.in-None.ensures in
    let b = subst (λ (x : Row). BodyStays (reason_of c.in_err-body-in-None.field-0.0) x (left c.body.new.self.cursor.rest.now)) (ap (λ r. left r.rest.now) n.0) c.in_err-body-in-None.ensures.stays in
    let p = err_from_is_err_and c.from_residual.result c.from_residual.ensures.1 in
    rw (p.1, p.2) (ending_stays [] (reason_of c.in_err-body-in-None.field-0.0) (left c.args.self.now.cursor.rest.now) (left c.body.new.self.cursor.rest.now) n.1 b)
