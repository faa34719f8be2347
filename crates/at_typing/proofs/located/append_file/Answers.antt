use Rattle.std.proofs.Common.{List, arith, map, refl}
use Rattle.at_jrag.specs.View.{aspect_view}
use Rattle.at_jrag.specs.declared.syntax.Aspect.{Aspect}
use Rattle.at_typing.specs.Located.{located_view, from_aspect, from_file}
use Rattle.at_typing.proofs.Appending.{next_part, no_part}
use Rattle.at_typing.proofs.located.append_file.Goals as goal

pub loop-aspect-preserved : goal.loop-aspect-preserved
loop-aspect-preserved c =
    let file = c.args.file in
    let a = c.aspect-item.result in
    let left = λ (as' : List Aspect). from_file file (map aspect_view as') in
    next_part left left _ _ (from_aspect file (aspect_view a)) _ c.args.aspects.now c.loop-aspect.aspect-index a
    (omega arith) c.aspect-item.is (λ rest. refl) c.in_ok-append_aspect.ensures c.loop-aspect.invariant

pub returns : goal.returns
returns c =
    let left = λ (as' : List Aspect). from_file c.args.file (map aspect_view as') in
    no_part left (map located_view c.loop-aspect.all.items) _ c.args.aspects.now c.loop-aspect.aspect-index (omega arith) refl c.loop-aspect.invariant
