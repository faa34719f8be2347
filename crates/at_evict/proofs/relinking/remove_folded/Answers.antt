use Rattle.at_evict.proofs.Common.{subst, sym, take_all, Remains, slots_at, memory_of}
use Rattle.at_evict.proofs.of_folding.Taken.{RemainsOf, of_all, of_more, of_none}
use Rattle.at_evict.proofs.relinking.remove_folded.Goals as goal

pub loop-slot-init : goal.loop-slot-init
loop-slot-init c = of_none _

pub loop-slot-preserved : goal.loop-slot-preserved
loop-slot-preserved c = of_more c.args.taken.now c.loop-slot.slot-index 0 _ _ _ c.loop-slot-test.true c.loop-slot.invariant c.remove_at.ensures

pub returns : goal.returns
returns c =
    subst (Remains (slots_at c.args.plan.now) (memory_of c.args.entries.now)) (λ n k. sym (c.shrink.ensures k) n)
    (of_all c.args.taken.now _ _ c.requires.taken
    (subst (λ xs. RemainsOf (slots_at c.args.plan.now) xs (memory_of c.args.entries.now) (memory_of c.loop-slot.entries))
    (take_all c.loop-slot.slot-index c.args.taken.now c.loop-slot-test.false) c.loop-slot.invariant))
