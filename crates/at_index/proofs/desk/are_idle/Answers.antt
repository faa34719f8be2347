use Rattle.at_index.proofs.DeskEdges.{idle_more}
use Rattle.at_index.proofs.desk.are_idle.Goals as goal

pub loop-row-preserved : goal.loop-row-preserved
loop-row-preserved g c = idle_more c.args.rows.now c.loop-row.row-index _ c.loop-row-test.true c.loop-row.invariant (c.is_idle_row.ensures c.if-not-is_idle_row.false)
