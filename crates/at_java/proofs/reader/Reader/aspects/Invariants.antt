use Rattle.std.proofs.Common.{◌≡◌}
use Rattle.at_text.specs.Rows.{left}
use Rattle.at_java.specs.Seen.{contents_view}
use Rattle.at_java.specs.Files.{aspects, most_aspects}
use Rattle.at_java.proofs.AspectLists.{behind}
use Rattle.at_java.proofs.reader.Reader.aspects.Given as goal

abbrev pub invariant-loop-all : goal.invariant-loop-all
invariant-loop-all l = aspects most_aspects (left l.fn.self.cursor.rest.now) ≡ behind (contents_view l.all) (aspects l.room (left l.self.cursor.rest.now))

abbrev pub decreases-loop-all : goal.decreases-loop-all
decreases-loop-all l = l.room
