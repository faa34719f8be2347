use Rattle.std.proofs.Common.{length, map}
use Rattle.at_jrag.specs.View.{aspect_view}
use Rattle.at_jrag.specs.Grammar.{File, IsWithin}
use Rattle.at_text.specs.Rows.{left}
use Rattle.at_jrag.proofs.reader.Reader.file.Given as goal

abbrev pub invariant-loop-forms : goal.invariant-loop-forms
invariant-loop-forms l = File l.fn.forms (map aspect_view l.aspects.items) (left l.fn.self.cursor.rest.now) (left l.self.cursor.rest.now) × IsWithin (map aspect_view l.aspects.items)

abbrev pub decreases-loop-forms : goal.decreases-loop-forms
decreases-loop-forms l = length (left l.self.cursor.rest.now)
