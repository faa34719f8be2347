use Rattle.std.specs.Prelude.{codes}
use Rattle.std.proofs.lemmas.Result.{err_from_is_err_and}
use Rattle.at_protocol.specs.Words.{IsNameText, IsPlaceText, IsValueText}
use Rattle.at_protocol.proofs.Answering.{Is, fails_is, fails_first, fails_rest, fails_whole}
use Rattle.at_protocol.proofs.CommandsLemmas.{Behind, set_token, BehindToken, NamedValue}
use Rattle.at_protocol.proofs.Parts.{token_text_of}
use Rattle.at_protocol.proofs.line.commands.read_token.Goals as goal

pub returns-in_err-place : goal.returns-in_err-place
returns-in_err-place c =
    let p = err_from_is_err_and c.from_residual.result c.from_residual.ensures.1 in
    rw (p.1, p.2) (fails_whole (BehindToken c.args.text.now) (Behind (codes "token") c.args.text.now) _ (set_token c.args.text.now) (fails_first IsPlaceText NamedValue _ _ c.in_err-place.ensures))

pub returns-in_err-part : goal.returns-in_err-part
returns-in_err-part c =
    let p = err_from_is_err_and c.from_residual-in_err-part.result c.from_residual-in_err-part.ensures.1 in
    rw (p.1, p.2) (fails_whole (BehindToken c.args.text.now) (Behind (codes "token") c.args.text.now) _ (set_token c.args.text.now) (fails_rest IsPlaceText NamedValue _ _ _ c.in_ok-place.ensures (fails_first IsNameText (Is IsValueText) _ _ c.in_err-part.ensures)))

pub returns-in_err-value : goal.returns-in_err-value
returns-in_err-value c =
    let p = err_from_is_err_and c.from_residual-in_err-value.result c.from_residual-in_err-value.ensures.1 in
    rw (p.1, p.2) (fails_whole (BehindToken c.args.text.now) (Behind (codes "token") c.args.text.now) _ (set_token c.args.text.now) (fails_rest IsPlaceText NamedValue _ _ _ c.in_ok-place.ensures (fails_rest IsNameText (Is IsValueText) _ _ _ c.in_ok-part.ensures (fails_is IsValueText _ _ c.in_err-value.ensures))))

pub returns : goal.returns
returns c = token_text_of _ _ _ _ _ _ c.in_ok-place.ensures c.in_ok-part.ensures c.in_ok-value.ensures
