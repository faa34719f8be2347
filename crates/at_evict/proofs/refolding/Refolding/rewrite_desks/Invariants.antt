use Rattle.at_evict.proofs.Common.{IsNodeOfDesks, into_of, is_told}
use Rattle.at_evict.proofs.of_folding.Places.{Below}
use Rattle.at_evict.proofs.refolding.Refolding.rewrite_desks.Given as goal

abbrev pub invariant-loop-place : goal.invariant-loop-place
invariant-loop-place l = Below (IsNodeOfDesks (is_told l.self) (into_of l.self)) l.place l.initial.all.entries l.all.entries
