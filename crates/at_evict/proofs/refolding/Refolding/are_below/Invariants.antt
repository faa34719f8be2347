use Rattle.at_evict.proofs.Common.{ℕ, Contains, take, IsBelow, into_of}
use Rattle.at_evict.proofs.refolding.Refolding.are_below.Given as goal

abbrev pub invariant-loop-slot : goal.invariant-loop-slot
invariant-loop-slot l = (p : ℕ) → Contains (take l.slot-index l.used) p → IsBelow (into_of l.self) l.targets p
