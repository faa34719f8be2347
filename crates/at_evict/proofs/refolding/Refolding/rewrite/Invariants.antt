use Rattle.at_evict.proofs.Common.{IsNodeRefolded, into_of, is_told}
use Rattle.at_evict.proofs.of_folding.Places.{Below}
use Rattle.at_evict.proofs.refolding.Refolding.rewrite.Given as goal

abbrev pub invariant-loop-number : goal.invariant-loop-number
invariant-loop-number l = Below (IsNodeRefolded (is_told l.self) (into_of l.self)) l.number l.initial.readers.items l.readers.items
