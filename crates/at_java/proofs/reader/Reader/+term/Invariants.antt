use Rattle.std.proofs.Common.{◌≡◌, ◌+◌, ◌*◌, map}
use Rattle.at_text.specs.Rows.{left}
use Rattle.at_tree.specs.View.{cell_view, term_view}
use Rattle.at_java.specs.Operands.{items, max_arguments}
use Rattle.at_java.specs.Constants.{argument, elements, most_elements, term}
use Rattle.at_java.proofs.Loops.{in_front}
use Rattle.at_java.proofs.reader.Reader.+term.Given as goal

abbrev pub decreases-term : goal.decreases-term
decreases-term l = 16 * l.depth

abbrev pub decreases-node : goal.decreases-node
decreases-node l = 16 * l.depth + 15

abbrev pub decreases-given : goal.decreases-given
decreases-given l = 16 * l.depth + 14

abbrev pub decreases-cells : goal.decreases-cells
decreases-cells l = 16 * l.depth + 13

abbrev pub decreases-argument : goal.decreases-argument
decreases-argument l = 16 * l.depth + 12

abbrev pub decreases-cell : goal.decreases-cell
decreases-cell l = 16 * l.depth + 11

abbrev pub decreases-made : goal.decreases-made
decreases-made l = 16 * l.depth + 10

abbrev pub decreases-list : goal.decreases-list
decreases-list l = 16 * l.depth + 9

abbrev pub decreases-list_items : goal.decreases-list_items
decreases-list_items l = 16 * l.depth + 8

abbrev pub decreases-optional : goal.decreases-optional
decreases-optional l = 16 * l.depth + 9

abbrev pub decreases-elements : goal.decreases-elements
decreases-elements l = 16 * l.depth + 7

abbrev pub decreases-added : goal.decreases-added
decreases-added l = 16 * l.depth + 6

abbrev pub decreases-child : goal.decreases-child
decreases-child l = 16 * l.depth + 5

abbrev pub invariant-cells-loop-more : goal.invariant-cells-loop-more
invariant-cells-loop-more l = items (argument (term l.depth)) max_arguments (left l.fn.self.cursor.rest.now)
    ≡ in_front (map cell_view l.items.items) (items (argument (term l.depth)) l.more (left l.self.cursor.rest.now))

abbrev pub decreases-cells-loop-more : goal.decreases-cells-loop-more
decreases-cells-loop-more l = l.more

abbrev pub invariant-elements-loop-terms : goal.invariant-elements-loop-terms
invariant-elements-loop-terms l = elements (term l.depth) l.at most_elements (left l.fn.self.cursor.rest.now)
    ≡ in_front (map term_view l.terms.items) (elements (term l.depth) l.at l.room (left l.self.cursor.rest.now))

abbrev pub decreases-elements-loop-terms : goal.decreases-elements-loop-terms
decreases-elements-loop-terms l = l.room
