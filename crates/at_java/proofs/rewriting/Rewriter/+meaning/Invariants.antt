use Rattle.std.proofs.Common.{◌≡◌, ◌≤◌, ◌+◌, ◌*◌, map, drop, length}
use Rattle.std.specs.Prelude.{max}
use Rattle.at_java.proofs.written.Statement.TheLaws.{the_size}
use Rattle.at_java.specs.Rests.{rest_view, rest_meant}
use Rattle.at_java.specs.Rewriting.{meaning_all}
use Rattle.at_java.specs.View.{statement_view}
use Rattle.at_java.specs.Written.{to_statements}
use Rattle.at_java.proofs.rewriting.Rewriter.+meaning.Given as goal

abbrev pub decreases-statement : goal.decreases-statement
decreases-statement l = 3 * goal.size-statement l + 1

abbrev pub decreases-statements : goal.decreases-statements
decreases-statements l = 3 * goal.size-statements l + 2

abbrev pub decreases-ways : goal.decreases-ways
decreases-ways l = 3 * max (the_size l.then.now) (the_size l.other.now) + 2

abbrev pub invariant-statements-loop-left : goal.invariant-statements-loop-left
invariant-statements-loop-left l =
    (meaning_all (to_statements (map statement_view (drop l.left l.statements))) (rest_view l.fn.rest) ≡ rest_meant l.rest) × (l.left ≤ length l.statements)

abbrev pub decreases-statements-loop-left : goal.decreases-statements-loop-left
decreases-statements-loop-left l = l.left
