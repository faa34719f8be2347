use Rattle.std.proofs.Common.{◌≡◌, map, length}
use Rattle.at_text.proofs.ReadingLaws.{Many}
use Rattle.at_grammar.specs.Meaning.{seen_part, part_means}
use Rattle.at_grammar.specs.Table as want
use Rattle.at_grammar.specs.Table.{table}
use Rattle.at_grammar.specs.Forms.{left, part}
use Rattle.at_grammar.proofs.reader.Reader.parts.Given as goal

abbrev pub invariant-loop-parts : goal.invariant-loop-parts
invariant-loop-parts l = (m : Many table part want.Parts (left l.fn.self.cursor.rest.now) (left l.self.cursor.rest.now)) × (map seen_part l.parts.items ≡ map part_means m.items)

abbrev pub decreases-loop-parts : goal.decreases-loop-parts
decreases-loop-parts l = length (left l.self.cursor.rest.now)
