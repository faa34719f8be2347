use Rattle.at_evict.proofs.Common.{take, slots_at, memory_of}
use Rattle.at_evict.proofs.of_folding.Taken.{RemainsOf}
use Rattle.at_evict.proofs.relinking.remove_folded.Given as goal

abbrev pub invariant-loop-slot : goal.invariant-loop-slot
invariant-loop-slot l = RemainsOf (slots_at l.plan) (take l.slot-index l.taken) (memory_of l.initial.entries) (memory_of l.entries)
