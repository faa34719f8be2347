use Rattle.at_engine.proofs.Newlines.{newline_found}
use Rattle.at_engine.proofs.stream.newline_in.Goals as goal

pub returns : goal.returns
returns c = newline_found c.args.bytes.now c.memchr.result c.memchr.ensures
