use Rattle.at_cache.proofs.Common.{sym, ◌∙◌, none_in}
use Rattle.at_cache.proofs.of_cut.InTheWay.{one_past, open_at}
use Rattle.at_cache.proofs.blocking.first_open.Goals as goal

pub loop-slot-init : goal.loop-slot-init
loop-slot-init c q h = absurd (none_in q h)

pub returns-then-not-is_kept : goal.returns-then-not-is_kept
returns-then-not-is_kept c =
    open_at c.args.entries.now c.args.standings.now c.args.slots.now c.loop-slot.slot-index _
    c.loop-slot-test.true c.loop-slot.invariant

pub loop-slot-preserved : goal.loop-slot-preserved
loop-slot-preserved c =
    one_past c.args.entries.now c.args.standings.now c.args.slots.now c.loop-slot.slot-index _
    c.loop-slot-test.true c.loop-slot.invariant (sym c.is_kept.ensures ∙ c.if-not-is_kept.false)
