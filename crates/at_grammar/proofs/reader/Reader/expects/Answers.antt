use Rattle.std.proofs.Common.{ap}
use Rattle.at_grammar.specs.Forms.{left}
use Rattle.at_grammar.proofs.Paths.{reads_mark, stops_mark}
use Rattle.at_grammar.proofs.reader.Reader.expects.Goals as goal

pub returns-then-takes : goal.returns-then-takes
returns-then-takes c = (tt, tt, reads_mark _ _ _ (rw c.if-takes.true at c.takes.ensures))

pub returns-else-takes : goal.returns-else-takes
returns-else-takes c = let e = rw c.if-takes.false at c.takes.ensures in stops_mark _ _ _ (ap left e.0) e.1
