use Rattle.at_protocol.proofs.Lines.{one_session_of}
use Rattle.at_protocol.proofs.laws.one_session_each.Goals as goal

pub returns : goal.returns
returns c = one_session_of
