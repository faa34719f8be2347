use Rattle.at_evict.proofs.Common.{arith}
use Rattle.at_evict.proofs.of_folding.Taken.{taken_all, taken_more, taken_none}
use Rattle.at_evict.proofs.folding.taken_of.Goals as goal

pub loop-place-init : goal.loop-place-init
loop-place-init c = taken_none _ _ c.in_ok-slots.ensures.items

pub loop-place-preserved : goal.loop-place-preserved
loop-place-preserved c = taken_more c.args.entries.now c.loop-place.place c.loop-place.slots.items _ _ c.loop-place.invariant c.in-Some.ensures c.in_ok-push.ensures.items

pub returns-clause-ordered : goal.returns-clause-ordered
returns-clause-ordered c = c.loop-place.invariant.at

pub returns-clause-taken : goal.returns-clause-taken
returns-clause-taken c = taken_all c.args.entries.now c.loop-place.place _ (omega (arith, c.loop-place-test.false, c.len-place-end.ensures)) c.loop-place.invariant
