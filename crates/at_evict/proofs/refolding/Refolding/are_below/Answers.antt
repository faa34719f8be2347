use Rattle.at_evict.proofs.Common.{ℕ, Contains, subst, take_all, IsBelow, into_of, none_in}
use Rattle.at_evict.proofs.of_folding.Walking.{all_more}
use Rattle.at_evict.proofs.refolding.Refolding.are_below.Goals as goal

pub loop-slot-init : goal.loop-slot-init
loop-slot-init c r h = absurd (none_in r h)

pub loop-slot-preserved : goal.loop-slot-preserved
loop-slot-preserved c =
    all_more (IsBelow (into_of c.args.self.now) c.args.targets.now) c.args.used.now c.loop-slot.slot-index 0 c.loop-slot-test.true
    c.loop-slot.invariant (c.is_below.ensures c.if-not-is_below.false)

pub returns : goal.returns
returns c t = subst (λ xs. (p : ℕ) → Contains xs p → IsBelow (into_of c.args.self.now) c.args.targets.now p)
    (take_all c.loop-slot.slot-index c.args.used.now c.loop-slot-test.false) c.loop-slot.invariant
