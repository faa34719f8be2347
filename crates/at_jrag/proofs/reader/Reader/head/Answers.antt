use Rattle.std.proofs.Common.{[], ◌∷◌}
use Rattle.std.proofs.lemmas.Result.{err_from_is_err_and}
use Rattle.at_text.specs.Rows.{left}
use Rattle.at_jrag.specs.Grammar.{may_be_circular}
use Rattle.at_jrag.specs.View.{word_view, params_view, kind_word_view}
use Rattle.at_jrag.specs.Runs.{reason_of}
use Rattle.at_jrag.specs.Wants as want
use Rattle.at_jrag.proofs.DeclarationRuns.{stay_first}
use Rattle.at_jrag.proofs.DeclarationStops.{no_kind, no_target, named_then}
use Rattle.at_jrag.proofs.reader.Reader.head.Goals as goal

pub returns-in_err-lazy-clause-stays : goal.returns-in_err-lazy-clause-stays
returns-in_err-lazy-clause-stays c =
    let p = err_from_is_err_and c.from_residual.result c.from_residual.ensures.1 in
    rw (p.1, p.2)
    (λ us. stay_first want.Lazy (want.Attribute c.args.forms ∷ us) (reason_of c.in_err-lazy.field-0.0)
    (left c.args.self.now.cursor.rest.now) (left c.lazy.new.self.cursor.rest.now) c.in_err-lazy.ensures.stays)

pub returns-in_err-kind-clause-stays : goal.returns-in_err-kind-clause-stays
returns-in_err-kind-clause-stays c =
    let p = err_from_is_err_and c.from_residual-in_err-kind.result c.from_residual-in_err-kind.ensures.1 in
    rw (p.1, p.2)
    (λ us. no_kind c.args.forms us c.in_err-kind.field-0.0 (left c.args.self.now.cursor.rest.now)
    (left c.lazy.new.self.cursor.rest.now) (left c.kind.new.self.cursor.rest.now) c.in_ok-lazy.ensures.goes
    c.in_err-kind.ensures.missing)

pub returns-in_err-target-clause-stays : goal.returns-in_err-target-clause-stays
returns-in_err-target-clause-stays c =
    let p = err_from_is_err_and c.from_residual-in_err-target.result c.from_residual-in_err-target.ensures.1 in
    rw (p.1, p.2)
    (λ us. no_target c.args.forms us (kind_word_view c.in_ok-kind.kind) (reason_of c.in_err-target.field-0.0) (left c.args.self.now.cursor.rest.now) (left c.lazy.new.self.cursor.rest.now)
    (left c.kind.new.self.cursor.rest.now) (left c.target.new.self.cursor.rest.now) c.in_ok-lazy.ensures.goes c.in_ok-kind.ensures.found
    (c.in_err-target.ensures.stays (want.Circular (may_be_circular c.args.forms (kind_word_view c.in_ok-kind.kind).kind) ∷ [])))

pub returns-in_err-start-clause-stays : goal.returns-in_err-start-clause-stays
returns-in_err-start-clause-stays c =
    let p = err_from_is_err_and c.from_residual-in_err-start.result c.from_residual-in_err-start.ensures.1 in
    let t = c.in_ok-target.ensures.found in
    let s = rw c.may_be_circular.ensures at c.in_err-start.ensures.stays in
    rw (p.1, p.2)
    (λ us. no_target c.args.forms us (kind_word_view c.in_ok-kind.kind) (reason_of c.in_err-start.field-0.0) (left c.args.self.now.cursor.rest.now) (left c.lazy.new.self.cursor.rest.now)
    (left c.kind.new.self.cursor.rest.now) (left c.circular.new.self.cursor.rest.now) c.in_ok-lazy.ensures.goes c.in_ok-kind.ensures.found
    (named_then _ (word_view c.in_ok-target.target.class) (word_view c.in_ok-target.target.name) (params_view c.in_ok-target.target.params) (reason_of c.in_err-start.field-0.0)
    (left c.kind.new.self.cursor.rest.now) t.0 (left c.target.new.self.cursor.rest.now) (left c.circular.new.self.cursor.rest.now) t.1 t.2 s))
