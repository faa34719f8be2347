use Rattle.at_cache.proofs.Common.{arith}
use Rattle.at_cache.proofs.of_cut.Shed.{sheds_end, sheds_more, sheds_start}
use Rattle.at_cache.proofs.shedding.shed.Goals as goal

pub loop-slot-init : goal.loop-slot-init
loop-slot-init c = (sheds_start c.args.standings.now _, omega (arith))

pub loop-slot-preserved : goal.loop-slot-preserved
loop-slot-preserved c = (
  sheds_more c.args.standings.now c.loop-slot.slot _ _ _ c.loop-slot.invariant.0 c.shed_at.ensures.sheds,
  omega (arith, c.loop-slot.invariant.1, c.shed_at.ensures.fewer),
)

pub returns-clause-sheds : goal.returns-clause-sheds
returns-clause-sheds c =
    sheds_end c.args.standings.now c.args.entries.now c.loop-slot.slot c.args.count _ c.requires.all (omega (arith, c.loop-slot-test.false)) c.loop-slot.invariant.0

pub returns-clause-fewer : goal.returns-clause-fewer
returns-clause-fewer c = c.loop-slot.invariant.1
