use Rattle.at_evict.proofs.Common.{subst, take_all, get, listed_at, into_of, memory_of}
use Rattle.at_evict.proofs.of_folding.Linking.{listed_none}
use Rattle.at_evict.proofs.of_folding.Taken.{LinksOf, links_all, links_none, links_one}
use Rattle.at_evict.proofs.refolding.Refolding.links_of.Goals as goal

pub loop-slot-init : goal.loop-slot-init
loop-slot-init c = links_none _ (listed_none (get c.args.self.now.entries.now.places) _ c.in_ok-lists.ensures)

pub loop-slot-preserved : goal.loop-slot-preserved
loop-slot-preserved c = links_one c.args.taken.now c.loop-slot.slot-index 0 c.loop-slot-test.true c.loop-slot.invariant c.in_ok-link_from.ensures

pub returns : goal.returns
returns c =
    let f = c.args.self.now in
    links_all _ _ c.args.taken.now _ c.requires.taken
    (subst (λ xs. LinksOf (memory_of f.entries.now) (into_of f) xs (listed_at (get f.entries.now.places) c.loop-slot.lists.items))
    (take_all c.loop-slot.slot-index c.args.taken.now c.loop-slot-test.false) c.loop-slot.invariant)
