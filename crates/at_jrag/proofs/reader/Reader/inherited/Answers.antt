use Rattle.std.proofs.Common.{[], ◌∷◌}
use lib.Chars.{codes}
use Rattle.std.proofs.lemmas.Result.{err_from_is_err_and}
use Rattle.at_text.specs.Rows.{left}
use Rattle.at_jrag.specs.View.{word_view, params_view, kind_word_view}
use Rattle.at_jrag.specs.Runs.{reason_of}
use Rattle.at_jrag.specs.Wants as want
use Rattle.at_jrag.proofs.DeclarationRuns.{stay_first, mark_missing}
use Rattle.at_jrag.proofs.DeclarationStops.{declared_stays}
use Rattle.at_jrag.proofs.reader.Reader.inherited.Goals as goal

pub returns-clause-found : goal.returns-clause-found
returns-clause-found c = λ old e. (left c.args.self.now.cursor.rest.now, e, (left c.head.new.self.cursor.rest.now, c.in_ok-head.ensures.found, (_, c.in_ok-expects.ensures.found)))

pub returns-in_err-head-clause-stays : goal.returns-in_err-head-clause-stays
returns-in_err-head-clause-stays c =
    let p = err_from_is_err_and c.from_residual.result c.from_residual.ensures.1 in
    rw (p.1, p.2) (c.in_err-head.ensures.stays (want.Mark (codes ";") ∷ want.Decls c.args.forms ∷ []))

pub returns-in_err-expects-clause-stays : goal.returns-in_err-expects-clause-stays
returns-in_err-expects-clause-stays c = let p = err_from_is_err_and c.from_residual-in_err-expects.result c.from_residual-in_err-expects.ensures.1 in rw (p.1, p.2)
    (declared_stays c.args.forms (want.Mark (codes ";") ∷ want.Decls c.args.forms ∷ []) c.in_ok-head.head.lazy (kind_word_view c.in_ok-head.head.kind) (word_view c.in_ok-head.head.class)
    (word_view c.in_ok-head.head.name) (params_view c.in_ok-head.head.params) c.in_ok-head.head.start (reason_of
    c.in_err-expects.field-0.0) (left c.args.self.now.cursor.rest.now) (left c.head.new.self.cursor.rest.now)
    (left c.expects.new.self.cursor.rest.now) c.in_ok-head.ensures.found c.in_ok-head.ensures.behind
    (stay_first (want.Mark (codes ";")) (want.Decls c.args.forms ∷ []) (reason_of c.in_err-expects.field-0.0)
    (left c.head.new.self.cursor.rest.now) (left c.expects.new.self.cursor.rest.now) (mark_missing
    (codes ";") c.in_err-expects.field-0.0 (left c.head.new.self.cursor.rest.now) (left c.expects.new.self.cursor.rest.now) c.in_err-expects.ensures.missing)))
