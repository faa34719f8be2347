use Rattle.at_evict.proofs.Common.{ℕ, Contains, subst, take_all, Stays, none_in}
use Rattle.at_evict.proofs.of_folding.Walking.{all_more}
use Rattle.at_evict.proofs.lone.Lone.are_at.Goals as goal

pub loop-slot-init : goal.loop-slot-init
loop-slot-init c there into lone p h = absurd (none_in p h)

pub loop-slot-preserved : goal.loop-slot-preserved
loop-slot-preserved c there into lone =
    all_more (Stays into) c.args.slots.now c.loop-slot.slot-index 0 c.loop-slot-test.true (c.loop-slot.invariant there into lone)
    (c.is_at.ensures there into lone c.if-not-is_at.false)

pub returns : goal.returns
returns c there into lone t = subst (λ xs. (p : ℕ) → Contains xs p → Stays into p)
    (take_all c.loop-slot.slot-index c.args.slots.now c.loop-slot-test.false) (c.loop-slot.invariant there into lone)
