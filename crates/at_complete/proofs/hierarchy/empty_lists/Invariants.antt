use Rattle.std.proofs.Common.{◌≡◌, ℕ, [], length}
use Rattle.at_complete.specs.Hierarchies.{listed_at}
use Rattle.at_complete.proofs.hierarchy.empty_lists.Given as goal

abbrev pub invariant-loop-position : goal.invariant-loop-position
invariant-loop-position l = record {
  count : length l.lists.items ≡ l.position;
  empty : (c : ℕ) → listed_at l.lists.items c ≡ [];
}
