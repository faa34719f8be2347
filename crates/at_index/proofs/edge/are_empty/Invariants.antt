use Rattle.at_index.proofs.Common.{◌≡◌, [], take, edges_along}
use Rattle.at_index.proofs.edge.are_empty.Given as goal

abbrev pub invariant-loop-row : goal.invariant-loop-row
invariant-loop-row l = edges_along (take l.row-index l.rows) ≡ []
