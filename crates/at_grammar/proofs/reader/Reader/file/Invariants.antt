use Rattle.std.proofs.Common.{◌≡◌, map, length}
use Rattle.at_text.proofs.ReadingLaws.{Many}
use Rattle.at_grammar.specs.Meaning.{seen_class, class_means}
use Rattle.at_grammar.specs.Table as want
use Rattle.at_grammar.specs.Table.{table}
use Rattle.at_grammar.specs.Forms.{left, declaration}
use Rattle.at_grammar.proofs.reader.Reader.file.Given as goal

abbrev pub invariant-loop-self : goal.invariant-loop-self
invariant-loop-self l = (m : Many table declaration want.File (left l.fn.self.cursor.rest.now) (left l.self.cursor.rest.now)) × (map seen_class l.classes.items ≡ map class_means m.items)

abbrev pub decreases-loop-self : goal.decreases-loop-self
decreases-loop-self l = length (left l.self.cursor.rest.now)
