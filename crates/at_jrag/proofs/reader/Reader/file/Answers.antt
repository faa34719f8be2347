use Rattle.std.proofs.Common.{map, sym, ap, subst, ◌∙◌, List}
use Rattle.std.specs.List.{AllByRecursion}
use Rattle.std.proofs.lemmas.List.{map_push}
use Rattle.at_text.proofs.ReadingLaws.{all_push}
use Rattle.at_jrag.specs.Syntax.{Aspect}
use Rattle.at_jrag.specs.View.{aspect_view}
use Rattle.at_jrag.specs.Grammar.{File, NestsWithin}
use Rattle.at_text.specs.Rows.{left}
use Rattle.at_jrag.proofs.Declarations.{file_push, aspect_shorter}
use Rattle.at_jrag.proofs.reader.Reader.file.Goals as goal
use Rattle.std.proofs.Common.{[], ◌∷◌, true}
use Rattle.std.proofs.lemmas.Result.{err_from_is_err_and}
use Rattle.at_jrag.specs.Runs.{reason_of}
use Rattle.at_jrag.specs.Wants as want
use Rattle.at_jrag.proofs.DeclarationRuns.{file_comes}
use Rattle.at_jrag.proofs.ParamStops.{comes_stay}

pub loop-forms-preserved : goal.loop-forms-preserved
loop-forms-preserved c =
    let i = c.loop-forms.invariant in
    let q = ap (map aspect_view) c.in_ok-push.ensures.items ∙ map_push aspect_view c.loop-forms.aspects.items c.in_ok-aspect.aspect in
    let r = c.in_ok-aspect.ensures.found in (
      subst (λ (x : List Aspect). File c.args.forms x (left c.args.self.now.cursor.rest.now) (left c.aspect.new.self.cursor.rest.now)) (sym q) (file_push c.args.forms _ _ _ _ _ i.0 r),
      subst (λ (x : List Aspect). AllByRecursion (λ a. AllByRecursion NestsWithin a.decls) x) (sym q) (all_push (λ a. AllByRecursion NestsWithin a.decls) _ _ i.1 c.in_ok-aspect.ensures.within),
    )

pub loop-forms-smaller : goal.loop-forms-smaller
loop-forms-smaller c =
    aspect_shorter c.args.forms _ _ _ (c.in_ok-aspect.ensures.found)

pub returns-in_err-aspect-clause-stays : goal.returns-in_err-aspect-clause-stays
returns-in_err-aspect-clause-stays c =
    let i = c.loop-forms.invariant in
    let p = err_from_is_err_and c.from_residual.result c.from_residual.ensures.1 in
    rw (p.1, p.2)
    (comes_stay (want.File c.args.forms ∷ []) (want.File c.args.forms ∷ []) (reason_of c.in_err-aspect.field-0.0) (left c.args.self.now.cursor.rest.now) (left c.loop-forms.self.cursor.rest.now)
    (left c.aspect.new.self.cursor.rest.now) (file_comes c.args.forms true _ (left c.args.self.now.cursor.rest.now)
    (left c.loop-forms.self.cursor.rest.now) (λ e. i.1) i.0) c.in_err-aspect.ensures.stays)
