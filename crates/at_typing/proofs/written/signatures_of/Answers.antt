use Rattle.std.proofs.Common.{List, ◌++◌, ◌∙◌, ap, arith, map, refl}
use Rattle.at_jrag.specs.Syntax.{KindWord}
use Rattle.at_typing.specs.Declaring.{result_in}
use Rattle.at_typing.specs.Meanings.{results, signatures_among, signature_if}
use Rattle.at_typing.specs.Numbering.{numbered_view}
use Rattle.at_typing.specs.Ruling.{words_view}
use Rattle.at_typing.specs.declared.numbered.Numbered.{Numbered}
use Rattle.at_typing.proofs.Appending.{next_part, no_part}
use Rattle.at_typing.proofs.written.signatures_of.Goals as goal

pub loop-numbered-preserved : goal.loop-numbered-preserved
loop-numbered-preserved c =
    let d = c.numbered-item.result in
    let left = λ (ds : List Numbered). signatures_among c.args.classes.now (results (map numbered_view c.args.declared.now)) (map numbered_view ds) in
    next_part left left _ _ (signature_if c.args.classes.now (results (map numbered_view c.args.declared.now))
    (numbered_view d) (result_in (numbered_view d).decl.form)) _ c.args.declared.now c.loop-numbered.numbered-index
    d (omega arith) c.numbered-item.is (λ rest. refl) (c.in_ok-append_signature.ensures
    ∙ ap (λ (ws : List KindWord). c.loop-numbered.signatures ++ signature_if c.args.classes.now ws (numbered_view d)
    (result_in (numbered_view d).decl.form)) (ap words_view c.deref.ensures.value ∙ c.in_ok-words.ensures))
    c.loop-numbered.invariant

pub returns : goal.returns
returns c =
    let left = λ (ds : List Numbered). signatures_among c.args.classes.now (results (map numbered_view c.args.declared.now)) (map numbered_view ds) in
    no_part left c.loop-numbered.signatures _ c.args.declared.now c.loop-numbered.numbered-index (omega arith) refl c.loop-numbered.invariant
