use Rattle.at_index.proofs.Common.{◌-◌, length, HoldsReach}
use Rattle.at_index.proofs.tells.Adding.purge.Given as goal

abbrev pub invariant-loop-place : goal.invariant-loop-place
invariant-loop-place g l =
    HoldsReach (g.T.Tells.tells l.self.teller.now) l.self.edge l.initial.edges.items l.edges.items

abbrev pub decreases-loop-place : goal.decreases-loop-place
decreases-loop-place g l = length l.edges.items - l.place
