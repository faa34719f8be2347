use Rattle.std.proofs.Common.{List, Vec, [], ◌∷◌, ◌∙◌, ap, arith, length, map, refl, sym}
use Rattle.std.specs.Global.{Global}
use Rattle.std.specs.Vec.Iter.{into_iter_items}
use Rattle.at_jrag.specs.declared.syntax.Aspect.{Aspect}
use Rattle.at_start.specs.Spreading.{aspect_spread, files_spread}
use Rattle.at_start.proofs.Rereading.{aspects_of, next_given, none_given, viewed_part}
use Rattle.at_start.proofs.everywhere.spread_files.Goals as goal

pub loop-aspects-preserved : goal.loop-aspects-preserved
loop-aspects-preserved c =
    let classes = c.args.classes.now in
    let attributes = c.args.own.now.attributes.items in
    let equations = c.args.own.now.equations.items in
    let at = c.loop-aspects in
    let f = c.in-Some.aspects in
    let steps = c.in-Some.ensures.steps in
    let left = λ (fs : List (Vec Aspect Global)). files_spread classes attributes equations (map aspects_of fs) in (
      next_given left (map aspects_of at.all.items) _ (map (aspect_spread classes attributes equations) (aspects_of f) ∷ []) _
          (into_iter_items at.aspects-iterator) _ f steps.0
          (λ xs. refl) (viewed_part aspects_of at.all.items _ _ _ c.in_ok-push.ensures.items c.in_ok-aspects.ensures)
          at.invariant.0,
      omega (arith, at.invariant.1, steps.1, ap length steps.0),
    )

pub returns : goal.returns
returns c =
    let at = c.loop-aspects in
    let left = λ (fs : List (Vec Aspect Global)). files_spread c.args.classes.now c.args.own.now.attributes.items
    c.args.own.now.equations.items (map aspects_of fs) in
    none_given left (map aspects_of at.all.items) _ (into_iter_items at.aspects-iterator) (sym at.invariant.1
    ∙ c.in-None.ensures.steps.0) refl at.invariant.0
    ∙ ap left c.into_iter-aspects-iterator.ensures.into_iter_gives.0
