use Rattle.at_cache.proofs.Common.{take, GoesOver, edges_along}
use Rattle.at_cache.proofs.forgetting.doom_all.Given as goal

abbrev pub invariant-loop-row : goal.invariant-loop-row
invariant-loop-row l = GoesOver l.loss (edges_along (take l.row-index l.rows)) l.initial.first l.initial.cut l.first l.cut
