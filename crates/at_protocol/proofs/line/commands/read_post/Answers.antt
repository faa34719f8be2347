use Rattle.std.specs.Prelude.{codes}
use Rattle.std.proofs.lemmas.Result.{err_from_is_err_and}
use Rattle.at_protocol.specs.Words.{IsPlaceText}
use Rattle.at_protocol.specs.Calls.{IsCallText}
use Rattle.at_protocol.proofs.Answering.{Is, fails_is, fails_first, fails_rest, fails_whole}
use Rattle.at_protocol.proofs.CommandsLemmas.{Behind, posted, BehindAsk}
use Rattle.at_protocol.proofs.Parts.{post_text}
use Rattle.at_protocol.proofs.line.commands.read_post.Goals as goal

pub returns-in_err-place : goal.returns-in_err-place
returns-in_err-place c =
    let p = err_from_is_err_and c.from_residual.result c.from_residual.ensures.1 in
    rw (p.1, p.2) (fails_whole (BehindAsk c.args.text.now) (Behind (codes "post") c.args.text.now) _ (posted c.args.text.now) (fails_first IsPlaceText (Is IsCallText) _ _ c.in_err-place.ensures))

pub returns-in_err-attribute : goal.returns-in_err-attribute
returns-in_err-attribute c =
    let p = err_from_is_err_and c.from_residual-in_err-attribute.result c.from_residual-in_err-attribute.ensures.1 in
    rw (p.1, p.2) (fails_whole (BehindAsk c.args.text.now) (Behind (codes "post") c.args.text.now) _ (posted c.args.text.now) (fails_rest IsPlaceText (Is IsCallText) _ _ _ c.in_ok-place.ensures (fails_is IsCallText _ _ c.in_err-attribute.ensures)))

pub returns : goal.returns
returns c = post_text _ _ _ _ _ c.in_ok-place.ensures c.in_ok-attribute.ensures
