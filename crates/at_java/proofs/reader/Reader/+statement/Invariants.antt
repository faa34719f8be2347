use Rattle.std.proofs.Common.{◌≡◌, ◌+◌, ◌*◌, map}
use Rattle.at_text.specs.Rows.{left}
use Rattle.at_java.specs.View.{statement_view}
use Rattle.at_java.specs.Items.{items_until}
use Rattle.at_java.specs.Statements.{statement, most_statements}
use Rattle.at_java.proofs.ItemLists.{behind}
use Rattle.at_java.proofs.reader.Reader.+statement.Given as goal

abbrev pub decreases-statement : goal.decreases-statement
decreases-statement l = 4 * l.depth

abbrev pub decreases-conditional : goal.decreases-conditional
decreases-conditional l = 4 * l.depth + 2

abbrev pub decreases-formed : goal.decreases-formed
decreases-formed l = 4 * l.depth + 3

abbrev pub decreases-otherwise : goal.decreases-otherwise
decreases-otherwise l = 4 * l.depth + 1

abbrev pub decreases-each : goal.decreases-each
decreases-each l = 4 * l.depth + 1

abbrev pub decreases-block : goal.decreases-block
decreases-block l = 4 * l.depth + 1

abbrev pub invariant-block-loop-end : goal.invariant-block-loop-end
invariant-block-loop-end l = items_until (statement l.depth) most_statements (left l.fn.self.cursor.rest.now)
    ≡ behind (map statement_view l.items.items) (items_until (statement l.depth) l.room (left l.self.cursor.rest.now))

abbrev pub decreases-block-loop-end : goal.decreases-block-loop-end
decreases-block-loop-end l = l.room
