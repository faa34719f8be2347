use Rattle.at_index.proofs.Common.{ℕ, ◌-◌, length, Location, edges_in_desks, Keeps}
use Rattle.at_index.proofs.desk.purge.Given as goal

abbrev pub invariant-loop-place : goal.invariant-loop-place
invariant-loop-place g l = (n : ℕ) (k : Location ℕ) → Keeps (g.T.Tells.tells l.teller) (edges_in_desks n l.fn.desks.spots.entries k) (edges_in_desks n l.desks.spots.entries k)

abbrev pub decreases-loop-place : goal.decreases-loop-place
decreases-loop-place g l = length l.desks.spots.entries - l.place
