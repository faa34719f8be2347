use Rattle.std.proofs.Common.{◌≡◌, length, None}
use Rattle.at_text.specs.Rows.{left}
use Rattle.at_java.specs.Declarations.{laziness}
use Rattle.at_java.proofs.reader.Reader.laziness.Given as goal

abbrev pub invariant-loop-next : goal.invariant-loop-next
invariant-loop-next l = laziness None (left l.fn.self.cursor.rest.now) ≡ laziness l.lazy (left l.self.cursor.rest.now)

abbrev pub decreases-loop-next : goal.decreases-loop-next
decreases-loop-next l = length (left l.self.cursor.rest.now)
