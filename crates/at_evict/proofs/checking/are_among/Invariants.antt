use Rattle.at_evict.proofs.Common.{ℕ, Contains, take}
use Rattle.at_evict.proofs.checking.are_among.Given as goal

abbrev pub invariant-loop-slot : goal.invariant-loop-slot
invariant-loop-slot l = (r : ℕ) → Contains (take l.slot-index l.slots) r → Contains l.others r
