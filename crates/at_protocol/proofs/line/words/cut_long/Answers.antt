use Rattle.at_protocol.proofs.Answering.{from_option}
use Rattle.at_protocol.proofs.line.words.cut_long.Goals as goal

pub returns : goal.returns
returns c = rw c.ok_or.ensures.value (from_option c.cut_far.result _ _ c.cut_far.ensures)
