use Rattle.at_index.proofs.Common.{◌∙◌, sym}
use Rattle.at_index.proofs.NoRows.{none_more, some_there, none_at_all}
use Rattle.at_index.proofs.edge.are_empty.Goals as goal

pub loop-row-preserved : goal.loop-row-preserved
loop-row-preserved c = none_more c.args.rows.now c.loop-row.row-index _ c.loop-row-test.true c.loop-row.invariant (sym c.is_empty.ensures ∙ c.if-not-is_empty.false)

pub returns-then-not-is_empty : goal.returns-then-not-is_empty
returns-then-not-is_empty c = some_there c.args.rows.now c.loop-row.row-index _ c.loop-row-test.true (sym c.is_empty.ensures ∙ c.if-not-is_empty.true)

pub returns : goal.returns
returns c = none_at_all c.args.rows.now c.loop-row.row-index c.loop-row-test.false c.loop-row.invariant
