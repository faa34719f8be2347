use Rattle.std.specs.Prelude.{codes}
use Rattle.std.proofs.lemmas.Result.{err_from_is_err_and}
use Rattle.at_tree.specs.ReadTrees.{IsTermOf}
use Rattle.at_protocol.specs.Words.{IsPlaceText}
use Rattle.at_protocol.proofs.Answering.{Is, fails_is, fails_first, fails_rest, fails_whole}
use Rattle.at_protocol.proofs.CommandsLemmas.{Behind, set, BehindSet}
use Rattle.at_protocol.proofs.Parts.{set_text}
use Rattle.at_protocol.proofs.line.commands.read_set.Goals as goal

pub returns-in_err-place : goal.returns-in_err-place
returns-in_err-place c =
    let p = err_from_is_err_and c.from_residual.result c.from_residual.ensures.1 in
    rw (p.1, p.2) (fails_whole (BehindSet c.args.text.now) (Behind (codes "set") c.args.text.now) _ (set c.args.text.now) (fails_first IsPlaceText (Is IsTermOf) _ _ c.in_err-place.ensures))

pub returns-in_err-term : goal.returns-in_err-term
returns-in_err-term c =
    let p = err_from_is_err_and c.from_residual-in_err-term.result c.from_residual-in_err-term.ensures.1 in
    rw (p.1, p.2) (fails_whole (BehindSet c.args.text.now) (Behind (codes "set") c.args.text.now) _ (set c.args.text.now) (fails_rest IsPlaceText (Is IsTermOf) _ _ _ c.in_ok-place.ensures (fails_is IsTermOf _ _ c.in_err-term.ensures)))

pub returns : goal.returns
returns c = set_text _ _ _ _ c.in_ok-place.ensures c.in_ok-term.ensures
