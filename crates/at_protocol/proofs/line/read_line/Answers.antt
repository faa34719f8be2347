use Rattle.std.proofs.Common.{◌∙◌, sym, subst}
use Rattle.at_protocol.specs.Commands.{IsCommandText}
use Rattle.at_protocol.specs.Words.{FailsOn}
use Rattle.at_protocol.proofs.Lines.{needs_command, one_line}
use Rattle.at_protocol.proofs.line.read_line.Goals as goal

pub fault_of-requires-in-Err-read_ask : goal.fault_of-requires-in-Err-read_ask
fault_of-requires-in-Err-read_ask c =
    needs_command c.args.line.now _ _ _ c.in-Err-read_ask.unread c.in-Ok.ensures (subst (λ text. FailsOn (IsCommandText text) c.in-Err-read_ask.unread) (sym c.in-Some.ensures) c.in-Err-read_ask.ensures)

pub returns-in-Ok-read_ask-clause-found : goal.returns-in-Ok-read_ask-clause-found
returns-in-Ok-read_ask-clause-found c =
    let is = c.in-Ok-read_ask.ensures in
    c.in-Ok.ensures.makes _ (record { is_command = is.is_command; is_text = c.in-Some.ensures ∙ is.is_text })

pub returns-in-Ok-read_ask-clause-only : goal.returns-in-Ok-read_ask-clause-only
returns-in-Ok-read_ask-clause-only c = λ l h.
    let is = c.in-Ok-read_ask.ensures in
    one_line _ _ l (c.in-Ok.ensures.makes _ (record { is_command = is.is_command; is_text = c.in-Some.ensures ∙ is.is_text })) h

pub returns-in-Ok-read_command-clause-only : goal.returns-in-Ok-read_command-clause-only
returns-in-Ok-read_command-clause-only c = λ l h. one_line _ _ l (c.in-Ok.ensures.makes _ c.in-Ok-read_command.ensures) h
