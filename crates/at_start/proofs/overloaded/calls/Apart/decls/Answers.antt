use Rattle.std.proofs.Common.{List, [], ◌∷◌, ◌∙◌, ap, arith, length, map, refl, sym}
use Rattle.std.specs.Vec.Iter.{into_iter_items}
use Rattle.at_jrag.specs.View.{decl_view}
use Rattle.at_jrag.specs.declared.syntax.Decl.{Decl}
use Rattle.at_start.specs.Overloading.{decl_apart}
use Rattle.at_start.specs.Pairs.{overloaded_in}
use Rattle.at_start.proofs.Rereading.{next_given, none_given, viewed_part}
use Rattle.at_start.proofs.overloaded.calls.Apart.decls.Goals as goal

pub loop-decl-preserved : goal.loop-decl-preserved
loop-decl-preserved c =
    let read = decl_apart (overloaded_in c.args.self.now.pairs) in
    let at = c.loop-decl in
    let a = c.in-Some.decl in
    let steps = c.in-Some.ensures.steps in
    let left = λ (as' : List Decl). map read (map decl_view as') in (
      next_given left (map decl_view at.all.items) _ (read (decl_view a) ∷ []) _ (into_iter_items
          at.decl-iterator) _ a steps.0
          (λ xs. refl) (viewed_part decl_view at.all.items _ _ _ c.in_ok-push.ensures.items c.in_ok-decl.ensures)
          at.invariant.0,
      omega (arith, at.invariant.1, steps.1, ap length steps.0),
    )

pub returns : goal.returns
returns c =
    let at = c.loop-decl in
    let left = λ (as' : List Decl). map (decl_apart (overloaded_in c.args.self.now.pairs)) (map decl_view as') in
    none_given left (map decl_view at.all.items) _ (into_iter_items at.decl-iterator) (sym at.invariant.1
    ∙ c.in-None.ensures.steps.0) refl at.invariant.0
    ∙ ap left c.into_iter-decl-iterator.ensures.into_iter_gives.0
