use Rattle.at_evict.proofs.Common.{Contains, length, Edge, edges_of}
use Rattle.at_evict.proofs.refolding.Refolding.is_in_row.Given as goal

abbrev pub invariant-loop-edge : goal.invariant-loop-edge
invariant-loop-edge l = (x : Edge) → Contains (edges_of l.rest) x → Contains (edges_of l.row) x

abbrev pub decreases-loop-edge : goal.decreases-loop-edge
decreases-loop-edge l = length (edges_of l.rest)
