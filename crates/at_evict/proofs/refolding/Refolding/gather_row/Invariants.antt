use Rattle.at_evict.proofs.Common.{length, into_of, is_told, edges_of}
use Rattle.at_evict.proofs.of_folding.Walking.{Behind}
use Rattle.at_evict.proofs.refolding.Refolding.gather_row.Given as goal

abbrev pub invariant-loop-edge : goal.invariant-loop-edge
invariant-loop-edge l = Behind (is_told l.self) (into_of l.self) (edges_of l.row) (edges_of l.rest) l.initial.slots.items l.slots.items

abbrev pub decreases-loop-edge : goal.decreases-loop-edge
decreases-loop-edge l = length (edges_of l.rest)
