use Rattle.at_evict.proofs.Common.{◌∙◌, ℕ, Contains, subst, sym, take_all, none_in}
use Rattle.at_evict.proofs.of_folding.Gathering.{is_one}
use Rattle.at_evict.proofs.of_folding.Walking.{all_more}
use Rattle.at_evict.proofs.checking.are_among.Goals as goal

pub loop-slot-init : goal.loop-slot-init
loop-slot-init c r h = absurd (none_in r h)

pub loop-slot-preserved : goal.loop-slot-preserved
loop-slot-preserved c =
    all_more (Contains c.args.others.now) c.args.slots.now c.loop-slot.slot-index 0 c.loop-slot-test.true
    c.loop-slot.invariant (is_one c.args.others.now _ (sym c.has.ensures ∙ c.if-not-has.false))

pub returns : goal.returns
returns c t = subst (λ xs. (r : ℕ) → Contains xs r → Contains c.args.others.now r)
    (take_all c.loop-slot.slot-index c.args.slots.now c.loop-slot-test.false) c.loop-slot.invariant
