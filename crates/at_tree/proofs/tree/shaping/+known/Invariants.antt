use Rattle.std.proofs.Common.{◌≡◌}
use Rattle.at_tree.proofs.Shaping.{cells_known_from, terms_known_from}
use Rattle.at_tree.proofs.tree.shaping.+known.Given as goal

abbrev pub invariant-is_known-loop-cell : goal.invariant-is_known-loop-cell
invariant-is_known-loop-cell l = cells_known_from l.classes l.cell-items 0 ≡ cells_known_from l.classes l.cell-items l.cell-index

abbrev pub invariant-are_known-loop-term : goal.invariant-are_known-loop-term
invariant-are_known-loop-term l = terms_known_from l.classes l.terms 0 ≡ terms_known_from l.classes l.terms l.term-index
