use Rattle.at_protocol.proofs.Lines.{session_is}
use Rattle.at_protocol.proofs.laws.session_is_of_line.Goals as goal

pub returns : goal.returns
returns c = session_is
