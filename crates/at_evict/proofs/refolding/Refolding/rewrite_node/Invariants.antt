use Rattle.at_evict.proofs.Common.{IsRefolded, into_of, is_told}
use Rattle.at_evict.proofs.of_folding.Places.{Below}
use Rattle.at_evict.proofs.refolding.Refolding.rewrite_node.Given as goal

abbrev pub invariant-loop-place : goal.invariant-loop-place
invariant-loop-place l = Below (IsRefolded (is_told l.self) (into_of l.self)) l.place l.initial.readers.items l.readers.items
