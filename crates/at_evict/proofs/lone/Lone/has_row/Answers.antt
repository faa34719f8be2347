use Rattle.at_evict.proofs.Common.{inr}
use Rattle.at_evict.proofs.of_folding.Gathering.{alone_end, alone_more}
use Rattle.at_evict.proofs.lone.Lone.has_row.Goals as goal

pub loop-edge-init : goal.loop-edge-init
loop-edge-init c there into lone x d = inr d

pub loop-edge-preserved : goal.loop-edge-preserved
loop-edge-preserved c there into lone =
    alone_more there into _ _ _ c.in-Some.edge c.in-Some.ensures (c.has.ensures there into lone c.if-not-has.false) (c.loop-edge.invariant there into lone)

pub returns : goal.returns
returns c there into lone t = alone_end there into _ _ c.in_default.ensures (c.loop-edge.invariant there into lone)
