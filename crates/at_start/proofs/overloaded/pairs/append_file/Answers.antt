use Rattle.std.proofs.Common.{List, ◌++◌, ◌∙◌, ap, arith, filter_map, map, refl}
use Rattle.std.specs.List.{flat_map}
use Rattle.at_jrag.specs.View.{aspect_view, decl_view}
use Rattle.at_jrag.specs.declared.syntax.Aspect.{Aspect}
use Rattle.at_start.specs.Overloading.{all_in, counted_of}
use Rattle.at_start.proofs.Rereading.{next_part, no_part}
use Rattle.at_start.proofs.overloaded.pairs.append_file.Goals as goal

pub loop-aspect-preserved : goal.loop-aspect-preserved
loop-aspect-preserved c =
    let a = c.aspect-item.result in
    let left = λ (as' : List Aspect). flat_map all_in (map aspect_view as') in
    next_part left left _ _ (all_in (aspect_view a)) _ c.args.aspects.now c.loop-aspect.aspect-index a
    (omega arith) c.aspect-item.is (λ rest. refl)
    (c.in_ok-append_decls.ensures ∙ ap (λ ds. c.loop-aspect.all.items ++ filter_map counted_of (map
    decl_view ds)) c.deref.ensures.value)
    c.loop-aspect.invariant

pub returns : goal.returns
returns c =
    let left = λ (as' : List Aspect). flat_map all_in (map aspect_view as') in
    no_part left c.loop-aspect.all.items _ c.args.aspects.now c.loop-aspect.aspect-index (omega arith) refl
    c.loop-aspect.invariant
