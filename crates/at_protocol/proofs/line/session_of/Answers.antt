use Rattle.at_protocol.proofs.Sessions.{session_read, no_session}
use Rattle.std.proofs.Common.{◌∙◌}
use Rattle.at_protocol.proofs.line.session_of.Goals as goal

pub returns-in-Ok : goal.returns-in-Ok
returns-in-Ok c = session_read _ _ _ (c.in-Ok.ensures.cases.0 ∙ c.first_word.ensures) c.read_session.ensures

pub returns-in-Err : goal.returns-in-Err
returns-in-Err c = no_session _ _ c.first_word.ensures c.in-Err.ensures.cases.0
