use Rattle.std.proofs.Common.{ℕ, List, Vec, ◌+◌, ◌++◌, ◌∙◌, ap, arith, map, refl}
use Rattle.std.specs.List.{flat_map}
use Rattle.std.specs.Global.{Global}
use Rattle.at_jrag.specs.View.{aspect_view}
use Rattle.at_jrag.specs.Syntax.{Aspect}
use Rattle.at_jrag.specs.declared.syntax.Aspect.{Aspect as AspectValue}
use Rattle.at_start.specs.Redeclaring.{in_aspect, in_files}
use Rattle.at_start.proofs.Rereading.{next_part, no_part}
use Rattle.at_start.proofs.redeclared.signatures_in.Goals as goal

pub loop-i-preserved : goal.loop-i-preserved
loop-i-preserved c =
    let i = c.loop-i.i in
    let f = c.index-files-i.result in
    let classes = c.args.classes.now in
    let left = λ (n : ℕ) (fs : List (Vec AspectValue Global)). in_files classes n (map (λ f. map aspect_view f.items)
    fs) in
    next_part (left (i + 1)) (left (i + 1 + 1)) _ _ (flat_map (in_aspect classes (i + 1)) (map aspect_view f.items)) _
    c.args.files.now i f
    (omega arith) c.index-files-i.is (λ rest. refl)
    (c.in_ok-append_file.ensures ∙ ap (λ (as' : List Aspect). c.loop-i.all.items ++ flat_map (in_aspect classes (i +
    1)) as')
    (ap (map aspect_view) c.deref.ensures.value)) c.loop-i.invariant

pub returns : goal.returns
returns c =
    let left = λ (fs : List (Vec AspectValue Global)). in_files c.args.classes.now (c.loop-i.i + 1) (map (λ f. map
    aspect_view f.items) fs) in
    no_part left c.loop-i.all.items _ c.args.files.now c.loop-i.i (omega arith) refl c.loop-i.invariant
