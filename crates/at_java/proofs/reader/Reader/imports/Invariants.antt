use Rattle.std.proofs.Common.{◌≡◌, length, false}
use Rattle.at_text.specs.Rows.{left}
use Rattle.at_java.specs.Files.{imports}
use Rattle.at_java.proofs.reader.Reader.imports.Given as goal

abbrev pub invariant-loop-next : goal.invariant-loop-next
invariant-loop-next l = imports false (left l.fn.self.cursor.rest.now) ≡ imports l.within (left l.self.cursor.rest.now)

abbrev pub decreases-loop-next : goal.decreases-loop-next
decreases-loop-next l = length (left l.self.cursor.rest.now)
