use Rattle.at_evict.proofs.of_folding.Taken.{TakenBelow}
use Rattle.at_evict.proofs.folding.taken_of.Given as goal

abbrev pub invariant-loop-place : goal.invariant-loop-place
invariant-loop-place l = TakenBelow l.entries l.place l.slots.items
