use Rattle.at_index.proofs.Common.{◌≡◌, ◌≤◌, ◌-◌, ◌+◌, ◌^◌, ℕ, List, length, Location, Run, AreApart, AreGiven, IsFree, edges_over}
use Rattle.at_index.proofs.seating.make_seat.Given as goal

abbrev pub invariant-loop-node : goal.invariant-loop-node
invariant-loop-node l = record {
  apart : AreApart l.initial.seats.items → AreApart l.seats.items;
  given : (runs : List Run) → AreGiven l.initial.seats.items runs → AreGiven l.seats.items runs;
  same : (runs : List Run) (k : Location ℕ) → edges_over l.seats.items runs k ≡ edges_over l.initial.seats.items runs k;
  free : (runs : List Run) → IsFree l.initial.seats.items runs l.node → IsFree l.seats.items runs l.node;
  short : length l.initial.seats.items ≤ 2 ^ 32 → length l.seats.items ≤ 2 ^ 32;
}

abbrev pub decreases-loop-node : goal.decreases-loop-node
decreases-loop-node l = l.node + 1 - length l.seats.items
