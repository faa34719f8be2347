use Rattle.std.proofs.Common.{◌≡◌, map}
use Rattle.at_text.specs.Rows.{left}
use Rattle.at_tree.specs.View.{term_view}
use Rattle.at_java.specs.Making.{additions, with_additions}
use Rattle.at_java.proofs.Loops.{in_front}
use Rattle.at_java.proofs.reader.Reader.with_additions.Given as goal

abbrev pub invariant-loop-at : goal.invariant-loop-at
invariant-loop-at l = with_additions l.local (map term_view l.fn.terms.items) (left l.fn.self.cursor.rest.now)
    ≡ in_front (map term_view l.all.items) (additions l.local l.room (left l.self.cursor.rest.now))

abbrev pub decreases-loop-at : goal.decreases-loop-at
decreases-loop-at l = l.room
