use Rattle.std.proofs.Common.{List, [], ◌∷◌, ◌++◌, ◌∙◌, ap, arith, length, map, refl, sym}
use Rattle.std.specs.Vec.Iter.{into_iter_items}
use Rattle.at_java.specs.Seen.{constant_view}
use Rattle.at_java.specs.declared.constants.Constant.{Constant}
use Rattle.at_start.specs.Constants.{in_file}
use Rattle.at_start.specs.PlacedView.{placed_view}
use Rattle.at_start.proofs.Rereading.{next_given, none_given, viewed_part}
use Rattle.at_start.proofs.aspects.append.Goals as goal

pub loop-constant-preserved : goal.loop-constant-preserved
loop-constant-preserved c =
    let file = c.args.file in
    let at = c.loop-constant in
    let k = c.in-Some.constant in
    let steps = c.in-Some.ensures.steps in
    let left = λ (ks : List Constant). in_file file (map constant_view ks) in (
      next_given left (map placed_view at.all.items) _ (left (k ∷ [])) _ (into_iter_items at.constant-iterator) _ k steps.0 (λ xs. refl)
          (viewed_part placed_view at.all.items _ _ _ c.in_ok-push.ensures.items refl) at.invariant.0,
      omega (arith, at.invariant.1, steps.1, ap length steps.0),
    )

pub returns : goal.returns
returns c =
    let at = c.loop-constant in
    let left = λ (ks : List Constant). in_file c.args.file (map constant_view ks) in
    none_given left (map placed_view at.all.items) _ (into_iter_items at.constant-iterator) (sym at.invariant.1
    ∙ c.in-None.ensures.steps.0) refl at.invariant.0
    ∙ ap (λ ks. map placed_view c.args.all.now.items ++ left ks) c.into_iter-constant-iterator.ensures.into_iter_gives.0
