use Rattle.std.specs.Prelude.{length}
use Rattle.at_tree.specs.Seen.{partial_view}
use Rattle.at_tree.proofs.Machine.{ReadTo}
use Rattle.at_tree.proofs.TermMachine.{term_machine}
use Rattle.at_tree.proofs.reader.read.read_by_characters.Given as goal

abbrev pub invariant-loop-rest : goal.invariant-loop-rest
invariant-loop-rest l = ReadTo term_machine l.text l.rest (partial_view l.partial)

abbrev pub decreases-loop-rest : goal.decreases-loop-rest
decreases-loop-rest l = length l.rest
