use Rattle.std.proofs.Common.{ℕ, List, ◌+◌, ◌++◌, ◌∙◌, ap, arith, map, refl}
use Rattle.std.specs.Prelude.{Vec}
use Rattle.std.specs.Global.{Global}
use Rattle.at_jrag.specs.View.{aspect_view}
use Rattle.at_jrag.specs.declared.syntax.Aspect.{Aspect}
use Rattle.at_typing.specs.Located.{located, located_view, from_file}
use Rattle.at_typing.proofs.Appending.{next_part, no_part}
use Rattle.at_typing.proofs.located.locate.Goals as goal

pub loop-i-preserved : goal.loop-i-preserved
loop-i-preserved c =
    let i = c.loop-i.i in
    let f = c.index-files-i.result in
    let left = λ (n : ℕ) (fs : List (Vec Aspect Global)). located n (map (λ f. map aspect_view f.items) fs) in
    next_part (left (i + 1)) (left (i + 1 + 1)) _ _ (from_file (i + 1) (map aspect_view f.items)) _ c.args.files.now i f (omega arith) c.index-files-i.is (λ rest. refl)
    (c.in_ok-append_file.ensures ∙ ap (λ (as' : List Aspect). map located_view c.loop-i.all.items ++ from_file (i + 1) (map aspect_view as')) c.deref.ensures.value) c.loop-i.invariant

pub returns : goal.returns
returns c =
    let left = λ (fs : List (Vec Aspect Global)). located (c.loop-i.i + 1) (map (λ f. map aspect_view f.items) fs) in
    no_part left (map located_view c.loop-i.all.items) _ c.args.files.now c.loop-i.i (omega arith) refl c.loop-i.invariant
