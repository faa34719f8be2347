use Rattle.std.proofs.Common.{List, arith, map, refl}
use Rattle.at_typing.specs.Declaring.{result_in}
use Rattle.at_typing.specs.Meanings.{results, words_of}
use Rattle.at_typing.specs.Ruling.{words_view}
use Rattle.at_typing.specs.Numbering.{numbered_view}
use Rattle.at_typing.specs.declared.numbered.Numbered.{Numbered}
use Rattle.at_typing.proofs.Appending.{next_part, no_part}
use Rattle.at_typing.proofs.written.results_of.Goals as goal

pub loop-numbered-preserved : goal.loop-numbered-preserved
loop-numbered-preserved c =
    let d = c.numbered-item.result in
    let left = λ (ds : List Numbered). results (map numbered_view ds) in
    next_part left left _ _ (words_of (result_in (numbered_view d).decl.form)) _ c.args.declared.now
    c.loop-numbered.numbered-index d (omega arith) c.numbered-item.is (λ rest. refl) c.in_ok-append_result.ensures
    c.loop-numbered.invariant

pub returns : goal.returns
returns c =
    let left = λ (ds : List Numbered). results (map numbered_view ds) in
    no_part left (words_view c.loop-numbered.words.items) _ c.args.declared.now c.loop-numbered.numbered-index (omega arith) refl c.loop-numbered.invariant
