use Rattle.at_evict.proofs.of_folding.Walking.{user_along}
use Rattle.at_evict.proofs.refolding.Refolding.is_in_rows.Goals as goal

pub returns-then-is_in_row : goal.returns-then-is_in_row
returns-then-is_in_row c t = user_along _ _ c.args.rows.now c.loop-row.row-index _ _ c.loop-row-test.true (c.is_in_row.ensures c.if-is_in_row.true)
