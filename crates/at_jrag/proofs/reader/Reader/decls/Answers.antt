use Rattle.std.proofs.Common.{map, sym, ap, subst, ◌∙◌, List}
use Rattle.std.specs.List.{AllByRecursion}
use Rattle.std.proofs.lemmas.List.{map_push}
use Rattle.at_text.proofs.ReadingLaws.{all_push}
use Rattle.at_jrag.specs.Syntax.{Decl}
use Rattle.at_jrag.specs.View.{decl_view}
use Rattle.at_text.specs.Rows.{Row, left}
use Rattle.at_jrag.specs.Grammar.{Decls, NestsWithin, DeclOf}
use Rattle.at_jrag.proofs.Declarations.{decls_push, decl_shorter}
use Rattle.at_jrag.proofs.reader.Reader.decls.Goals as goal
use Rattle.std.proofs.Common.{[], ◌∷◌, true}
use Rattle.std.proofs.lemmas.Result.{err_from_is_err_and}
use Rattle.at_jrag.specs.Runs.{Stay, reason_of}
use Rattle.at_jrag.specs.Wants as want
use Rattle.at_jrag.proofs.DeclarationRuns.{decls_come}
use Rattle.at_jrag.proofs.ParamStops.{comes_stay}

pub loop-forms-preserved : goal.loop-forms-preserved
loop-forms-preserved c =
    let same = ap (λ r. left r.rest.now) c.loop-forms-test.ensures.0 in
    let i = c.loop-forms.invariant in
    let q = ap (map decl_view) c.in_ok-push.ensures.items ∙ map_push decl_view c.loop-forms.decls.items c.in_ok-decl.decl in
    let r = subst (λ (x : Row). DeclOf c.args.forms (decl_view c.in_ok-decl.decl) x (left c.decl.new.self.cursor.rest.now)) same c.in_ok-decl.ensures.found in (
      subst (λ (x : List Decl). Decls c.args.forms x (left c.args.self.now.cursor.rest.now) (left c.decl.new.self.cursor.rest.now)) (sym q) (decls_push c.args.forms _ _ _ _ _ i.0 r),
      subst (λ (x : List Decl). AllByRecursion NestsWithin x) (sym q) (all_push NestsWithin _ _ i.1 c.in_ok-decl.ensures.within),
    )

pub loop-forms-smaller : goal.loop-forms-smaller
loop-forms-smaller c =
    let same = ap (λ r. left r.rest.now) c.loop-forms-test.ensures.0 in
    decl_shorter c.args.forms _ _ _ (subst (λ (x : Row). DeclOf c.args.forms (decl_view c.in_ok-decl.decl) x (left c.decl.new.self.cursor.rest.now)) same c.in_ok-decl.ensures.found)

pub returns-in_err-decl-clause-stays : goal.returns-in_err-decl-clause-stays
returns-in_err-decl-clause-stays c =
    let same = ap (λ r. left r.rest.now) c.loop-forms-test.ensures.0 in
    let i = c.loop-forms.invariant in
    let s = subst (λ (x : Row). Stay (want.Decls c.args.forms ∷ []) (reason_of c.in_err-decl.field-0.0) x (left c.decl.new.self.cursor.rest.now)) same c.in_err-decl.ensures.stays in
    let p = err_from_is_err_and c.from_residual.result c.from_residual.ensures.1 in
    rw (p.1, p.2)
    (comes_stay (want.Decls c.args.forms ∷ []) (want.Decls c.args.forms ∷ []) (reason_of c.in_err-decl.field-0.0) (left c.args.self.now.cursor.rest.now) (left c.loop-forms.self.cursor.rest.now)
    (left c.decl.new.self.cursor.rest.now) (decls_come c.args.forms true _ (left c.args.self.now.cursor.rest.now) (left c.loop-forms.self.cursor.rest.now) (λ e. i.1) i.0) s)
