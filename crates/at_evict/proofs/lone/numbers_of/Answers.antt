use Rattle.at_evict.proofs.Common.{slots_at, memory_of, is_current}
use Rattle.at_evict.proofs.lone.numbers_of.Goals as goal

pub loop-slot-init : goal.loop-slot-init
loop-slot-init c = c.in_ok-numbers.ensures (is_current (memory_of c.args.entries.now)) (slots_at c.args.plan.now)

pub loop-slot-preserved : goal.loop-slot-preserved
loop-slot-preserved c =
    c.set_number.ensures (is_current (memory_of c.args.entries.now)) (slots_at c.args.plan.now) c.args.none c.number_in.ensures c.loop-slot.invariant

pub returns : goal.returns
returns c = c.loop-slot.invariant
