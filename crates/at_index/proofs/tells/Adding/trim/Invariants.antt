use Rattle.at_index.proofs.Common.{length, HoldsReach}
use Rattle.at_index.proofs.tells.Adding.trim.Given as goal

abbrev pub invariant-loop-reach : goal.invariant-loop-reach
invariant-loop-reach g l =
    HoldsReach (g.T.Tells.tells l.self.teller.now) l.self.edge l.initial.edges.items l.edges.items

abbrev pub decreases-loop-reach : goal.decreases-loop-reach
decreases-loop-reach g l = length l.edges.items
