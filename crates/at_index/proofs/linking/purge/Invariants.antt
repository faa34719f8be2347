use Rattle.at_index.proofs.Common.{◌-◌, length, Keeps, edges_along}
use Rattle.at_index.proofs.linking.purge.Given as goal

abbrev pub invariant-loop-place : goal.invariant-loop-place
invariant-loop-place g l = Keeps (g.T.Tells.tells l.teller) (edges_along l.initial.rows.items) (edges_along l.rows.items)

abbrev pub decreases-loop-place : goal.decreases-loop-place
decreases-loop-place g l = length l.rows.items - l.place
