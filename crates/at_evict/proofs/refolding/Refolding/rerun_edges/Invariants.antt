use Rattle.at_evict.proofs.Common.{take, into_of, memory_of, AreRerun}
use Rattle.at_evict.proofs.refolding.Refolding.rerun_edges.Given as goal

abbrev pub invariant-loop-reach : goal.invariant-loop-reach
invariant-loop-reach l = AreRerun (memory_of l.self.entries.now) (into_of l.self) (take l.reach-index l.edges) l.made.items
