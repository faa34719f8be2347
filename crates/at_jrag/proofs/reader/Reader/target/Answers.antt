use Rattle.std.proofs.Common.{◌∷◌}
use lib.Chars.{codes}
use Rattle.std.proofs.lemmas.Result.{err_from_is_err_and}
use Rattle.at_text.specs.Rows.{left}
use Rattle.at_jrag.specs.View.{word_view}
use Rattle.at_jrag.specs.Runs.{reason_of}
use Rattle.at_jrag.specs.Wants as want
use Rattle.at_jrag.proofs.DeclarationStops.{no_class, no_dot, no_name, signed_stays, owner_stays}
use Rattle.at_jrag.proofs.reader.Reader.target.Goals as goal

pub returns-clause-found : goal.returns-clause-found
returns-clause-found c =
    let p = rw c.as_str.ensures.value at c.in_ok-params.ensures.found in
    (left c.expects.new.self.cursor.rest.now, (_, c.in_ok-class.ensures.found, (_, c.in_ok-expects.ensures.found)), (_, p.0, c.in_ok-name.ensures.found, p.1, p.2))

pub returns-in_err-class-clause-stays : goal.returns-in_err-class-clause-stays
returns-in_err-class-clause-stays c =
    let p = err_from_is_err_and c.from_residual.result c.from_residual.ensures.1 in
    rw (p.1, p.2)
    (λ us. no_class (want.Mark (codes ".") ∷ want.Signed ∷ us) c.in_err-class.field-0.0 (left c.args.self.now.cursor.rest.now) (left c.name.new.self.cursor.rest.now) c.in_err-class.ensures.missing)

pub returns-in_err-expects-clause-stays : goal.returns-in_err-expects-clause-stays
returns-in_err-expects-clause-stays c =
    let p = err_from_is_err_and c.from_residual-in_err-expects.result c.from_residual-in_err-expects.ensures.1 in
    rw (p.1, p.2)
    (λ us. no_dot (want.Signed ∷ us) (word_view c.in_ok-class.class) c.in_err-expects.field-0.0 (left c.args.self.now.cursor.rest.now) (left c.name.new.self.cursor.rest.now)
    (left c.expects.new.self.cursor.rest.now) c.in_ok-class.ensures.found c.in_err-expects.ensures.missing)

pub returns-in_err-name-clause-stays : goal.returns-in_err-name-clause-stays
returns-in_err-name-clause-stays c =
    let p = err_from_is_err_and c.from_residual-in_err-name.result c.from_residual-in_err-name.ensures.1 in
    rw (p.1, p.2)
    (λ us. owner_stays (word_view c.in_ok-class.class) (want.Signed ∷ us) (reason_of c.in_err-name.field-0.0) (left c.args.self.now.cursor.rest.now) (left c.expects.new.self.cursor.rest.now)
    (left c.name-2.new.self.cursor.rest.now) (_, c.in_ok-class.ensures.found, (_, c.in_ok-expects.ensures.found)) (no_name us c.in_err-name.field-0.0
    (left c.expects.new.self.cursor.rest.now) (left c.name-2.new.self.cursor.rest.now) c.in_err-name.ensures.missing))

pub returns-in_err-params-clause-stays : goal.returns-in_err-params-clause-stays
returns-in_err-params-clause-stays c =
    let s = rw c.as_str.ensures.value at c.in_err-params.ensures.stays in
    let p = err_from_is_err_and c.from_residual-in_err-params.result c.from_residual-in_err-params.ensures.1 in
    rw (p.1, p.2) (λ us.
    owner_stays (word_view c.in_ok-class.class) (want.Signed ∷ us) (reason_of c.in_err-params.field-0.0)
    (left c.args.self.now.cursor.rest.now) (left c.expects.new.self.cursor.rest.now)
    (left c.params.new.self.cursor.rest.now) (_, c.in_ok-class.ensures.found, (_, c.in_ok-expects.ensures.found))
    (signed_stays us (word_view c.in_ok-name.name) (reason_of c.in_err-params.field-0.0) (left c.expects.new.self.cursor.rest.now) (left c.name-2.new.self.cursor.rest.now)
    (left c.params.new.self.cursor.rest.now) c.in_ok-name.ensures.found s))
