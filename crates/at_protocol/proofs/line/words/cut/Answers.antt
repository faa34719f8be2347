use Rattle.at_protocol.proofs.Answering.{from_option}
use Rattle.at_protocol.proofs.line.words.cut.Goals as goal

pub returns : goal.returns
returns c = rw c.ok_or.ensures.value (from_option c.cut_at.result _ _ c.cut_at.ensures)
