use Rattle.std.proofs.Common.{◌≡◌, ℕ, length}
use Rattle.std.specs.Prelude.{◌&&◌, nat_eq, nat_lt}
use Rattle.std.specs.List.{list_any}
use Rattle.at_complete.specs.Hierarchies.{is_child, listed_at}
use Rattle.at_complete.proofs.hierarchy.Hierarchy.of.Given as goal

abbrev pub invariant-loop-position : goal.invariant-loop-position
invariant-loop-position l = record {
  count : length l.below.items ≡ length l.classes;
  listed : (c d : ℕ) → list_any (nat_eq d) (listed_at l.below.items c) ≡ (nat_lt d l.position && is_child l.classes c d);
}
