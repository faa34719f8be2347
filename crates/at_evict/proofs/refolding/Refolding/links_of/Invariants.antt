use Rattle.at_evict.proofs.Common.{take, get, listed_at, into_of, memory_of}
use Rattle.at_evict.proofs.of_folding.Taken.{LinksOf}
use Rattle.at_evict.proofs.refolding.Refolding.links_of.Given as goal

abbrev pub invariant-loop-slot : goal.invariant-loop-slot
invariant-loop-slot l = LinksOf (memory_of l.self.entries.now) (into_of l.self) (take l.slot-index l.taken)
    (listed_at (get l.self.entries.now.places) l.lists.items)
