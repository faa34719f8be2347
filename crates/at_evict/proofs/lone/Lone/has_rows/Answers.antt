use Rattle.at_evict.proofs.Common.{List, subst, take_all, Row, AreAlone, edges_along}
use Rattle.at_evict.proofs.of_folding.Gathering.{alone_none}
use Rattle.at_evict.proofs.of_folding.Walking.{alone_row}
use Rattle.at_evict.proofs.lone.Lone.has_rows.Goals as goal

pub loop-row-init : goal.loop-row-init
loop-row-init c there into lone = alone_none there into

pub loop-row-preserved : goal.loop-row-preserved
loop-row-preserved c there into lone =
    alone_row there into c.args.rows.now c.loop-row.row-index _ c.loop-row-test.true (c.loop-row.invariant there into lone)
    (c.has_row.ensures there into lone c.if-not-has_row.false)

pub returns : goal.returns
returns c there into lone t = subst (λ (rs : List Row). AreAlone there into (edges_along rs))
    (take_all c.loop-row.row-index c.args.rows.now c.loop-row-test.false) (c.loop-row.invariant there into lone)
