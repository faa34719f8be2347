use Rattle.std.proofs.Common.{◌≡◌, ◌+◌, ◌-◌, ◌*◌, ◌≤◌, [], ◌∷◌, length, map}
use Rattle.std.specs.Str.{bytes_eq}
use lib.Chars.{codes}
use Rattle.at_text.specs.Rows.{Row, left}
use Rattle.at_jrag.specs.Read.{Reads}
use Rattle.at_jrag.specs.Syntax.{to_exprs}
use Rattle.at_jrag.specs.View.{expr_view}
use Rattle.at_jrag.specs.Grammar.{deepest}
use Rattle.at_jrag.specs.Runs.{Goes}
use Rattle.at_jrag.specs.Wants.{Binary, Links}
use Rattle.at_jrag.proofs.of_expressions.Expressions.{Wanted}
use Rattle.at_jrag.proofs.PartStops.{AreCalls, Among}
use Rattle.at_jrag.proofs.reader.Reader.+expression.Given as goal

abbrev pub decreases-expression : goal.decreases-expression
decreases-expression l = 16 * l.budget + 15

abbrev pub decreases-binary : goal.decreases-binary
decreases-binary l = 16 * l.budget + (14 - l.level)

abbrev pub decreases-linked : goal.decreases-linked
decreases-linked l = 16 * l.budget

abbrev pub decreases-unary : goal.decreases-unary
decreases-unary l = 16 * l.budget + 6

abbrev pub decreases-calls : goal.decreases-calls
decreases-calls l = 16 * l.budget + 1

abbrev pub decreases-arguments : goal.decreases-arguments
decreases-arguments l = 16 * l.budget + 16

abbrev pub decreases-primary : goal.decreases-primary
decreases-primary l = 16 * l.budget + 5

abbrev pub decreases-named : goal.decreases-named
decreases-named l = 16 * l.budget + 4

abbrev pub decreases-fold : goal.decreases-fold
decreases-fold l = 16 * l.budget + 4

abbrev pub invariant-binary-loop-link : goal.invariant-binary-loop-link
invariant-binary-loop-link l =
    (l.operand.depth ≤ l.budget) × Reads l.level l.operand (left l.fn.self.cursor.rest.now) (left l.self.cursor.rest.now)
    × Goes (Binary (7 - l.level)) (λ b. Links (6 - l.level) b ∷ []) l.operand.depth (left l.fn.self.cursor.rest.now) (left l.self.cursor.rest.now)

abbrev pub decreases-binary-loop-link : goal.decreases-binary-loop-link
decreases-binary-loop-link l = l.budget - l.operand.depth

abbrev pub invariant-calls-loop-self : goal.invariant-calls-loop-self
invariant-calls-loop-self l = (l.receiver.depth ≤ l.budget) × ((old : Row) → Reads 8 l.fn.first old (left l.fn.self.cursor.rest.now) → Reads 8 l.receiver old (left l.self.cursor.rest.now))
    × AreCalls l.fn.first.depth l.receiver.depth (left l.fn.self.cursor.rest.now) (left l.self.cursor.rest.now) × (l.fn.first.depth ≤ l.receiver.depth)

abbrev pub decreases-calls-loop-self : goal.decreases-calls-loop-self
decreases-calls-loop-self l = l.budget - l.receiver.depth

abbrev pub invariant-arguments-loop-items : goal.invariant-arguments-loop-items
invariant-arguments-loop-items l = (l.depth ≤ l.budget) × (l.depth ≡ deepest (to_exprs (map expr_view l.items.items)))
    × Wanted (map expr_view l.items.items) (left l.initial.self.cursor.rest.now) (left l.self.cursor.rest.now)
    × Among (bytes_eq l.fn.name (codes "getChild")) l.depth (left l.initial.self.cursor.rest.now) (left l.self.cursor.rest.now)

abbrev pub decreases-arguments-loop-items : goal.decreases-arguments-loop-items
decreases-arguments-loop-items l = length (left l.self.cursor.rest.now)
