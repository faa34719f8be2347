use Rattle.at_evict.proofs.Common.{take, get, LinkedTo, listed_at, into_of}
use Rattle.at_evict.proofs.refolding.Refolding.link_each.Given as goal

abbrev pub invariant-loop-target : goal.invariant-loop-target
invariant-loop-target l = LinkedTo (into_of l.self) (take l.target-index l.targets) l.links (listed_at (get l.self.entries.now.places) l.initial.lists.items)
    (listed_at (get l.self.entries.now.places) l.lists.items)
