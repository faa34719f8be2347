use Rattle.std.proofs.Common.{List, Vec, [], ◌∷◌, ◌∙◌, ap, arith, length, map, refl, sym}
use Rattle.std.specs.Global.{Global}
use Rattle.std.specs.Vec.Iter.{into_iter_items}
use Rattle.at_jrag.specs.declared.syntax.Aspect.{Aspect}
use Rattle.at_start.specs.Overloading.{aspect_apart, files_apart}
use Rattle.at_start.specs.Pairs.{overloaded_in}
use Rattle.at_start.proofs.Rereading.{aspects_of, next_given, none_given, viewed_part}
use Rattle.at_start.proofs.overloaded.calls.Apart.files.Goals as goal

pub loop-aspects-preserved : goal.loop-aspects-preserved
loop-aspects-preserved c =
    let is = overloaded_in c.args.self.now.pairs in
    let at = c.loop-aspects in
    let f = c.in-Some.aspects in
    let steps = c.in-Some.ensures.steps in
    let left = λ (fs : List (Vec Aspect Global)). files_apart is (map aspects_of fs) in (
      next_given left (map aspects_of at.all.items) _ (map (aspect_apart is) (aspects_of f) ∷ []) _
          (into_iter_items at.aspects-iterator) _ f steps.0
          (λ xs. refl) (viewed_part aspects_of at.all.items _ _ _ c.in_ok-push.ensures.items c.in_ok-aspects.ensures)
          at.invariant.0,
      omega (arith, at.invariant.1, steps.1, ap length steps.0),
    )

pub returns : goal.returns
returns c =
    let at = c.loop-aspects in
    let left = λ (fs : List (Vec Aspect Global)). files_apart (overloaded_in c.args.self.now.pairs) (map aspects_of fs) in
    none_given left (map aspects_of at.all.items) _ (into_iter_items at.aspects-iterator) (sym at.invariant.1
    ∙ c.in-None.ensures.steps.0) refl at.invariant.0
    ∙ ap left c.into_iter-aspects-iterator.ensures.into_iter_gives.0
