use Rattle.at_protocol.proofs.Lines.{one_line}
use Rattle.at_protocol.proofs.laws.one_line_each.Goals as goal

pub returns : goal.returns
returns c = one_line
