use Rattle.at_protocol.proofs.Cuts.{space_found}
use Rattle.at_protocol.proofs.line.words.space_in.Goals as goal

pub returns : goal.returns
returns c = space_found c.args.bytes.now c.memchr.result c.memchr.ensures
