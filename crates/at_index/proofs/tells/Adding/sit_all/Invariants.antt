use Rattle.at_index.proofs.Common.{◌≤◌, ◌^◌, length, AreSeated, Lose, edges_over}
use Rattle.at_index.proofs.tells.Adding.sit_all.Given as goal

abbrev pub invariant-loop-location : goal.invariant-loop-location
invariant-loop-location g l = record {
  seated : AreSeated l.seats.items l.runs.items;
  holds : Lose (g.T.Tells.tells l.self.teller.now) l.self.edge (edges_over l.initial.seats.items l.initial.runs.items) (edges_over l.seats.items l.runs.items);
  short : length l.initial.seats.items ≤ 2 ^ 32 → length l.seats.items ≤ 2 ^ 32;
}

abbrev pub decreases-loop-location : goal.decreases-loop-location
decreases-loop-location g l = length l.rest
