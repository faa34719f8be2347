use Rattle.at_index.proofs.Common.{[], take, Keeps, edges_along}
use Rattle.at_index.proofs.desk.are_idle.Given as goal

abbrev pub invariant-loop-row : goal.invariant-loop-row
invariant-loop-row g l = Keeps (g.T.Tells.tells l.teller) (edges_along (take l.row-index l.rows)) []
