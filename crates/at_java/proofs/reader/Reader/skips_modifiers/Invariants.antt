use Rattle.std.proofs.Common.{◌≡◌, length}
use Rattle.at_text.specs.Rows.{left}
use Rattle.at_java.specs.Declarations.{behind_modifiers}
use Rattle.at_java.proofs.reader.Reader.skips_modifiers.Given as goal

abbrev pub invariant-loop : goal.invariant-loop
invariant-loop l = behind_modifiers (left l.fn.self.cursor.rest.now) ≡ behind_modifiers (left l.self.cursor.rest.now)

abbrev pub decreases-loop : goal.decreases-loop
decreases-loop l = length (left l.self.cursor.rest.now)
