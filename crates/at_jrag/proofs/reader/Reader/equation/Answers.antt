use Rattle.std.proofs.Common.{[], ◌∷◌, ap, subst}
use Rattle.std.proofs.lemmas.Result.{err_from_is_err_and}
use Rattle.at_text.specs.Rows.{Row, left}
use Rattle.at_jrag.specs.View.{word_view, params_view, body_view}
use Rattle.at_jrag.specs.Grammar.{BodyOf}
use Rattle.at_jrag.specs.Runs.{reason_of}
use Rattle.at_jrag.specs.Wants as want
use Rattle.at_jrag.proofs.Declarations.{equation_read}
use Rattle.at_jrag.proofs.DeclarationStops.{BodyStays, behind_getter, equation_body}
use Rattle.at_jrag.proofs.reader.Reader.equation.Goals as goal

pub returns-then-skips_getter-clause-found : goal.returns-then-skips_getter-clause-found
returns-then-skips_getter-clause-found c = λ forms. let s = c.if-skips_getter.ensures in
    equation_read forms c.inherited_equation.result c.in_ok-target.target c.args.at
    _ _ _ _ (c.inherited_equation.ensures.found forms) c.in_ok-target.ensures.found s.1

pub returns-clause-found : goal.returns-clause-found
returns-clause-found c = λ forms old e.
    let s = c.if-skips_getter.ensures in
    let t = c.in_ok-target.ensures.found in
    let b = subst (λ (x : Row). BodyOf (body_view c.in_ok-body.body) x (left c.body.new.self.cursor.rest.now)) (ap (λ r. left r.rest.now) s.0) c.in_ok-body.ensures.found in
    (left c.args.self.now.cursor.rest.now, e, (t.0, left c.target.new.self.cursor.rest.now, t.1, t.2, b))

pub returns-in_err-target-clause-stays : goal.returns-in_err-target-clause-stays
returns-in_err-target-clause-stays c =
    let p = err_from_is_err_and c.from_residual.result c.from_residual.ensures.1 in
    rw (p.1, p.2) (λ forms. c.in_err-target.ensures.stays (want.Defined ∷ want.Decls forms ∷ []))

pub returns-then-skips_getter-clause-stays : goal.returns-then-skips_getter-clause-stays
returns-then-skips_getter-clause-stays c = λ forms.
    let s = c.if-skips_getter.ensures in
    let t = c.in_ok-target.ensures.found in
    behind_getter c.inherited_equation.result (want.Decls forms ∷ []) (word_view c.in_ok-target.target.class) (word_view
    c.in_ok-target.target.name) (params_view c.in_ok-target.target.params) (left c.args.self.now.cursor.rest.now)
    t.0 (left c.target.new.self.cursor.rest.now) (left c.skips_getter.new.self.cursor.rest.now)
    (left c.inherited_equation.new.self.cursor.rest.now) t.1 t.2 s.0 s.1 (c.inherited_equation.ensures.stays forms)

pub returns-in_err-body-clause-stays : goal.returns-in_err-body-clause-stays
returns-in_err-body-clause-stays c =
    let s = c.if-skips_getter.ensures in
    let t = c.in_ok-target.ensures.found in
    let b = subst (λ (x : Row). BodyStays (reason_of c.in_err-body.field-0.0) x (left c.body.new.self.cursor.rest.now)) (ap (λ r. left r.rest.now) s.0) c.in_err-body.ensures.stays in
    let p = err_from_is_err_and c.from_residual-in_err-body.result c.from_residual-in_err-body.ensures.1 in
    rw (p.1, p.2)
    (λ forms. equation_body (want.Decls forms ∷ []) (word_view c.in_ok-target.target.class) (word_view c.in_ok-target.target.name) (params_view c.in_ok-target.target.params)
    (reason_of c.in_err-body.field-0.0) (left c.args.self.now.cursor.rest.now) t.0 (left c.target.new.self.cursor.rest.now) (left c.body.new.self.cursor.rest.now) t.1 t.2 s.1 b)
