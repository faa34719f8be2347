use Rattle.at_evict.proofs.Common.{IsDeskRefolded, into_of, is_told}
use Rattle.at_evict.proofs.of_folding.Places.{Below}
use Rattle.at_evict.proofs.refolding.Refolding.rewrite_desks_of.Given as goal

abbrev pub invariant-loop-place : goal.invariant-loop-place
invariant-loop-place l = Below (IsDeskRefolded (is_told l.self) (into_of l.self)) l.place l.initial.desks.spots.entries l.desks.spots.entries
