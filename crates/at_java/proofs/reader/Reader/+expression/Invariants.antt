use Rattle.std.proofs.Common.{◌≡◌, ◌+◌, ◌*◌, ◌-◌, map}
use Rattle.at_text.specs.Rows.{left}
use Rattle.at_jrag.specs.View.{expr_view}
use Rattle.at_java.specs.Operands.{calls, max_calls, items, max_arguments}
use Rattle.at_java.specs.Operators.{operands, links, max_links}
use Rattle.at_java.specs.Expressions.{readers}
use Rattle.at_java.proofs.Loops.{in_front}
use Rattle.at_java.proofs.reader.Reader.+expression.Given as goal

abbrev pub decreases-expression_within : goal.decreases-expression_within
decreases-expression_within l = 32 * l.budget

abbrev pub decreases-choice : goal.decreases-choice
decreases-choice l = 32 * l.depth + 30

abbrev pub decreases-chosen : goal.decreases-chosen
decreases-chosen l = 32 * l.depth + 1

abbrev pub decreases-operands : goal.decreases-operands
decreases-operands l = 32 * l.depth + 10 + 3 * l.rank

abbrev pub decreases-links : goal.decreases-links
decreases-links l = 32 * l.depth + 9 + 3 * l.rank

abbrev pub decreases-linked : goal.decreases-linked
decreases-linked l = 32 * l.depth + 11 + 3 * l.below

abbrev pub decreases-unary_within : goal.decreases-unary_within
decreases-unary_within l = 32 * l.budget

abbrev pub decreases-unary : goal.decreases-unary
decreases-unary l = 32 * l.depth + 9

abbrev pub decreases-negative : goal.decreases-negative
decreases-negative l = 32 * l.depth + 5

abbrev pub decreases-cast : goal.decreases-cast
decreases-cast l = 32 * l.depth + 1

abbrev pub decreases-postfix_within : goal.decreases-postfix_within
decreases-postfix_within l = 32 * l.budget

abbrev pub decreases-postfix : goal.decreases-postfix
decreases-postfix l = 32 * l.depth + 8

abbrev pub decreases-calls : goal.decreases-calls
decreases-calls l = 32 * l.depth + 4

abbrev pub decreases-call_of : goal.decreases-call_of
decreases-call_of l = 32 * l.depth + 3

abbrev pub decreases-arguments : goal.decreases-arguments
decreases-arguments l = 32 * l.depth + 2

abbrev pub decreases-items : goal.decreases-items
decreases-items l = 32 * l.depth + 1

abbrev pub decreases-primary : goal.decreases-primary
decreases-primary l = 32 * l.depth + 7

abbrev pub decreases-parenthesized : goal.decreases-parenthesized
decreases-parenthesized l = 32 * l.depth + 1

abbrev pub decreases-worded : goal.decreases-worded
decreases-worded l = 32 * l.depth + 6

abbrev pub decreases-named : goal.decreases-named
decreases-named l = 32 * l.depth + 5

abbrev pub decreases-fold : goal.decreases-fold
decreases-fold l = 32 * l.depth + 1

abbrev pub invariant-calls-loop-receiver : goal.invariant-calls-loop-receiver
invariant-calls-loop-receiver l = calls (readers l.depth) max_calls (expr_view l.fn.first) (left l.fn.self.cursor.rest.now)
    ≡ calls (readers l.depth) l.more (expr_view l.receiver) (left l.self.cursor.rest.now)

abbrev pub decreases-calls-loop-receiver : goal.decreases-calls-loop-receiver
decreases-calls-loop-receiver l = l.more

abbrev pub invariant-links-loop-link : goal.invariant-links-loop-link
invariant-links-loop-link l = links (operands (readers l.depth) (l.rank - 1)) l.rank max_links (expr_view l.fn.first) (left l.fn.self.cursor.rest.now)
    ≡ links (operands (readers l.depth) (l.rank - 1)) l.rank l.more (expr_view l.operand) (left l.self.cursor.rest.now)

abbrev pub decreases-links-loop-link : goal.decreases-links-loop-link
decreases-links-loop-link l = l.more

abbrev pub invariant-items-loop-more : goal.invariant-items-loop-more
invariant-items-loop-more l = items (readers l.depth).expression max_arguments (left l.fn.self.cursor.rest.now)
    ≡ in_front (map expr_view l.items.items) (items (readers l.depth).expression l.more (left l.self.cursor.rest.now))

abbrev pub decreases-items-loop-more : goal.decreases-items-loop-more
decreases-items-loop-more l = l.more
