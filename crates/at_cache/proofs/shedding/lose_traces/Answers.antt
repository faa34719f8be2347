use Rattle.at_cache.proofs.Common.{arith, subst, IsChanged, untraced}
use Rattle.at_cache.proofs.of_cut.Shed.{loses_end, loses_more, loses_start}
use Rattle.at_cache.proofs.shedding.lose_traces.Goals as goal

pub loop-number-init : goal.loop-number-init
loop-number-init c = loses_start _

pub loop-number-preserved : goal.loop-number-preserved
loop-number-preserved c =
    loses_more c.loop-number.number _ _ _ c.loop-number.invariant
    (subst (λ s. IsChanged untraced s c.loop-number.standings.items c.take_trace.new.standings.items) c.in_ok-slot.ensures c.take_trace.ensures.taken)

pub returns : goal.returns
returns c =
    loses_end c.loop-number.number c.args.standings.now.items c.loop-number.standings.items
    (omega (arith, c.loop-number-test.false, c.len-number-end.ensures, c.args.standings.now.ok.0)) c.loop-number.invariant
