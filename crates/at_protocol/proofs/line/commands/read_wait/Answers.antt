use Rattle.std.specs.Prelude.{codes}
use Rattle.std.proofs.lemmas.Result.{err_from_is_err_and}
use Rattle.at_protocol.specs.Words.{IsQuestionNumber}
use Rattle.at_protocol.proofs.Answering.{Is, fails_is, fails_whole}
use Rattle.at_protocol.proofs.CommandsLemmas.{Behind, waited}
use Rattle.at_protocol.proofs.Parts.{wait_text}
use Rattle.at_protocol.proofs.line.commands.read_wait.Goals as goal

pub returns-in_err-number : goal.returns-in_err-number
returns-in_err-number c =
    let p = err_from_is_err_and c.from_residual.result c.from_residual.ensures.1 in
    rw (p.1, p.2) (fails_whole (Is IsQuestionNumber c.args.text.now) (Behind (codes "wait") c.args.text.now) _ (waited c.args.text.now) (fails_is IsQuestionNumber _ _ c.in_err-number.ensures))

pub returns : goal.returns
returns c = wait_text _ _ c.in_ok-number.ensures
