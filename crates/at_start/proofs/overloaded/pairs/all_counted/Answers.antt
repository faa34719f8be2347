use Rattle.std.proofs.Common.{List, Vec, ◌++◌, ◌∙◌, ap, arith, map, refl}
use Rattle.std.specs.List.{flat_map}
use Rattle.std.specs.Global.{Global}
use Rattle.at_jrag.specs.View.{aspect_view}
use Rattle.at_jrag.specs.Syntax.{Aspect}
use Rattle.at_jrag.specs.declared.syntax.Aspect.{Aspect as AspectValue}
use Rattle.at_start.specs.Overloading.{all_counted, all_in}
use Rattle.at_start.proofs.Rereading.{next_part, no_part}
use Rattle.at_start.proofs.overloaded.pairs.all_counted.Goals as goal

pub loop-aspects-preserved : goal.loop-aspects-preserved
loop-aspects-preserved c =
    let f = c.aspects-item.result in
    let left = λ (fs : List (Vec AspectValue Global)). all_counted (map (λ f. map aspect_view f.items) fs) in
    next_part left left _ _ (flat_map all_in (map aspect_view f.items)) _ c.args.files.now
    c.loop-aspects.aspects-index f
    (omega arith) c.aspects-item.is (λ rest. refl)
    (c.in_ok-append_file.ensures ∙ ap (λ (as' : List Aspect). c.loop-aspects.all.items ++ flat_map all_in as')
    (ap (map aspect_view) c.deref.ensures.value)) c.loop-aspects.invariant

pub returns : goal.returns
returns c =
    let left = λ (fs : List (Vec AspectValue Global)). all_counted (map (λ f. map aspect_view f.items) fs) in
    no_part left c.loop-aspects.all.items _ c.args.files.now c.loop-aspects.aspects-index (omega arith) refl
    c.loop-aspects.invariant
