use Rattle.at_evict.proofs.Common.{subst, take_all, Linked, slots_at}
use Rattle.at_evict.proofs.of_folding.Linking.{linked_none}
use Rattle.at_evict.proofs.of_folding.Walking.{linked_more}
use Rattle.at_evict.proofs.relinking.add_links.Goals as goal

pub loop-slot-init : goal.loop-slot-init
loop-slot-init c = linked_none _

pub loop-slot-preserved : goal.loop-slot-preserved
loop-slot-preserved c = linked_more c.args.links.now c.loop-slot.slot-index 0 _ _ _ c.loop-slot-test.true c.loop-slot.invariant c.in_ok-add_link.ensures

pub returns : goal.returns
returns c = subst (λ xs. Linked (slots_at c.args.plan.now) xs c.args.list.now.items c.loop-slot.list.items)
    (take_all c.loop-slot.slot-index c.args.links.now c.loop-slot-test.false) c.loop-slot.invariant
