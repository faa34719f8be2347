use Rattle.at_cache.proofs.Common.{List, subst, take_all, GoesOver, edges_along}
use Rattle.at_index.specs.declared.row.Row.{Row}
use Rattle.at_cache.proofs.of_cut.Passing.{over_none, over_then}
use Rattle.at_index.proofs.RowLists.{along_more}
use Rattle.at_cache.proofs.forgetting.doom_all.Goals as goal

pub loop-row-init : goal.loop-row-init
loop-row-init c = over_none c.args.loss c.args.first c.args.cut.now

pub loop-row-preserved : goal.loop-row-preserved
loop-row-preserved c = subst (λ es. GoesOver c.args.loss es c.args.first c.args.cut.now c.doom_row-first.result c.doom_row-first.new.cut)
    (along_more c.args.rows.now c.loop-row.row-index _ c.loop-row-test.true)
    (over_then c.args.loss c.loop-row.invariant c.doom_row-first.ensures)

pub returns : goal.returns
returns c = subst (λ (rs : List Row). GoesOver c.args.loss (edges_along rs) c.args.first c.args.cut.now c.loop-row.first c.loop-row.cut)
    (take_all c.loop-row.row-index c.args.rows.now c.loop-row-test.false) c.loop-row.invariant
