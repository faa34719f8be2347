use Rattle.std.proofs.Common.{ℕ, ◌<◌, ◌≤◌, length}
use Rattle.at_solve.specs.Searching.{At}
use Rattle.at_solve.specs.declared.search.Group.{Group}
use Rattle.at_solve.proofs.Leaving.{left_path, left_found}
use Rattle.at_solve.proofs.search.count_to.Given as goal

abbrev pub invariant-loop-count : goal.invariant-loop-count
invariant-loop-count l = record {
  most : l.count ≤ length l.groups;
  gone : (m : ℕ) (g : Group) → l.count ≤ m → At l.groups m g → l.place < g.nodes;
}

abbrev pub decreases-loop-count : goal.decreases-loop-count
decreases-loop-count l = l.count
