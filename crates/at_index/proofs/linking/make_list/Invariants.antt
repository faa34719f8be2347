use Rattle.at_index.proofs.Common.{◌≡◌, ◌≤◌, ◌-◌, ◌+◌, ◌^◌, ℕ, length, Location, edges_at}
use Rattle.at_index.proofs.linking.make_list.Given as goal

abbrev pub invariant-loop-alloc : goal.invariant-loop-alloc
invariant-loop-alloc l = record {
  same : (k : Location ℕ) → edges_at l.readers.items k ≡ edges_at l.initial.readers.items k;
  short : length l.initial.readers.items ≤ 2 ^ 32 → length l.readers.items ≤ 2 ^ 32;
}

abbrev pub decreases-loop-alloc : goal.decreases-loop-alloc
decreases-loop-alloc l = l.number + 1 - length l.readers.items
