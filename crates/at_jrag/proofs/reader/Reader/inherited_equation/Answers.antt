use Rattle.std.proofs.Common.{[], ◌∷◌, sym, subst, Option}
use Rattle.std.proofs.lemmas.Result.{err_from_is_err_and}
use Rattle.at_jrag.specs.Syntax.{Word}
use Rattle.at_jrag.specs.View.{word_view, params_view}
use Rattle.at_jrag.specs.Grammar.{Getter}
use Rattle.at_text.specs.Rows.{left}
use Rattle.at_jrag.specs.Runs.{reason_of}
use Rattle.at_jrag.specs.Wants as want
use Rattle.at_jrag.proofs.Declarations.{getter_read}
use Rattle.at_jrag.proofs.DeclarationStops.{no_name, signed_stays, inherited_body}
use Rattle.at_jrag.proofs.reader.Reader.inherited_equation.Goals as goal

pub returns-clause-found : goal.returns-clause-found
returns-clause-found c = λ forms old named mid e t d.
    let p = rw c.as_str.ensures.value at c.in_ok-params.ensures.found in
    let got = getter_read (word_view c.args.getter.name) (params_view c.args.getter.params) t.0 mid (left c.args.self.now.cursor.rest.now) c.requires t.2 d in
    let g = subst (λ (x : Option Word). Getter (word_view c.args.getter.name) x t.0 (left c.args.self.now.cursor.rest.now)) (sym c.index_of.ensures) got in
    (named, e, (t.0, left c.args.self.now.cursor.rest.now, left c.params.new.self.cursor.rest.now, t.1, g, (_, p.0, c.in_ok-name.ensures.found, p.1, p.2), c.in_ok-body.ensures.found))

pub returns-in_err-name-clause-stays : goal.returns-in_err-name-clause-stays
returns-in_err-name-clause-stays c =
    let p = err_from_is_err_and c.from_residual.result c.from_residual.ensures.1 in
    rw (p.1, p.2) (λ forms. no_name (want.Body ∷ want.Decls forms ∷ []) c.in_err-name.field-0.0
    (left c.args.self.now.cursor.rest.now) (left c.name.new.self.cursor.rest.now) c.in_err-name.ensures.missing)

pub returns-in_err-params-clause-stays : goal.returns-in_err-params-clause-stays
returns-in_err-params-clause-stays c =
    let s = rw c.as_str.ensures.value at c.in_err-params.ensures.stays in
    let p = err_from_is_err_and c.from_residual-in_err-params.result c.from_residual-in_err-params.ensures.1 in
    rw (p.1, p.2)
    (λ forms. signed_stays (want.Body ∷ want.Decls forms ∷ []) (word_view c.in_ok-name.name) (reason_of
    c.in_err-params.field-0.0) (left c.args.self.now.cursor.rest.now) (left c.name.new.self.cursor.rest.now)
    (left c.params.new.self.cursor.rest.now) c.in_ok-name.ensures.found s)

pub returns-in_err-body-clause-stays : goal.returns-in_err-body-clause-stays
returns-in_err-body-clause-stays c =
    let p = rw c.as_str.ensures.value at c.in_ok-params.ensures.found in
    let q = err_from_is_err_and c.from_residual-in_err-body.result c.from_residual-in_err-body.ensures.1 in
    rw (q.1, q.2)
    (λ forms. inherited_body (want.Decls forms ∷ []) (word_view c.in_ok-name.name) (params_view c.in_ok-params.params) (reason_of c.in_err-body.field-0.0) (left c.args.self.now.cursor.rest.now)
    (left c.params.new.self.cursor.rest.now) (left c.body.new.self.cursor.rest.now) (_, p.0, c.in_ok-name.ensures.found, p.1, p.2) c.in_err-body.ensures.stays)
