use Rattle.at_evict.proofs.Common.{take, memory_of, Reaches}
use Rattle.at_evict.proofs.refolding.Refolding.rerun_edge.Given as goal

abbrev pub invariant-loop-slot : goal.invariant-loop-slot
invariant-loop-slot l = Reaches (memory_of l.self.entries.now) (take l.slot-index l.targets) l.reach l.initial.edges.items l.edges.items
