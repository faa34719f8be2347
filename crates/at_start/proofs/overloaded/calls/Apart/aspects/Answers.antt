use Rattle.std.proofs.Common.{List, [], ◌∷◌, ◌∙◌, ap, arith, length, map, refl, sym}
use Rattle.std.specs.Vec.Iter.{into_iter_items}
use Rattle.at_jrag.specs.View.{aspect_view}
use Rattle.at_jrag.specs.declared.syntax.Aspect.{Aspect}
use Rattle.at_start.specs.Overloading.{aspect_apart}
use Rattle.at_start.specs.Pairs.{overloaded_in}
use Rattle.at_start.proofs.Rereading.{next_given, none_given, viewed_part}
use Rattle.at_start.proofs.overloaded.calls.Apart.aspects.Goals as goal

pub loop-aspect-preserved : goal.loop-aspect-preserved
loop-aspect-preserved c =
    let read = aspect_apart (overloaded_in c.args.self.now.pairs) in
    let at = c.loop-aspect in
    let a = c.in-Some.aspect in
    let steps = c.in-Some.ensures.steps in
    let left = λ (as' : List Aspect). map read (map aspect_view as') in (
      next_given left (map aspect_view at.all.items) _ (read (aspect_view a) ∷ []) _ (into_iter_items
          at.aspect-iterator) _ a steps.0
          (λ xs. refl) (viewed_part aspect_view at.all.items _ _ _ c.in_ok-push.ensures.items c.in_ok-aspect.ensures)
          at.invariant.0,
      omega (arith, at.invariant.1, steps.1, ap length steps.0),
    )

pub returns : goal.returns
returns c =
    let at = c.loop-aspect in
    let left = λ (as' : List Aspect). map (aspect_apart (overloaded_in c.args.self.now.pairs)) (map aspect_view as') in
    none_given left (map aspect_view at.all.items) _ (into_iter_items at.aspect-iterator) (sym at.invariant.1
    ∙ c.in-None.ensures.steps.0) refl at.invariant.0
    ∙ ap left c.into_iter-aspect-iterator.ensures.into_iter_gives.0
