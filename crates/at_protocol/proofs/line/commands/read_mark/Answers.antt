use Rattle.std.specs.Prelude.{codes}
use Rattle.std.proofs.lemmas.Result.{err_from_is_err_and}
use Rattle.at_protocol.specs.Words.{IsNameText, IsPlaceText}
use Rattle.at_protocol.proofs.Answering.{Is, fails_is, fails_first, fails_rest, fails_whole}
use Rattle.at_protocol.proofs.CommandsLemmas.{Behind, marked, BehindMark}
use Rattle.at_protocol.proofs.Parts.{mark_text}
use Rattle.at_protocol.proofs.line.commands.read_mark.Goals as goal

pub returns-in_err-name : goal.returns-in_err-name
returns-in_err-name c =
    let p = err_from_is_err_and c.from_residual.result c.from_residual.ensures.1 in
    rw (p.1, p.2) (fails_whole (BehindMark c.args.text.now) (Behind (codes "mark") c.args.text.now) _ (marked c.args.text.now) (fails_first IsNameText (Is IsPlaceText) _ _ c.in_err-name.ensures))

pub returns-in_err-place : goal.returns-in_err-place
returns-in_err-place c =
    let p = err_from_is_err_and c.from_residual-in_err-place.result c.from_residual-in_err-place.ensures.1 in
    rw (p.1, p.2) (fails_whole (BehindMark c.args.text.now) (Behind (codes "mark") c.args.text.now) _ (marked c.args.text.now) (fails_rest IsNameText (Is IsPlaceText) _ _ _ c.in_ok-name.ensures (fails_is IsPlaceText _ _ c.in_err-place.ensures)))

pub returns : goal.returns
returns c = mark_text _ _ _ _ c.in_ok-name.ensures c.in_ok-place.ensures
