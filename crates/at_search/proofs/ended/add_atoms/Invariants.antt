use Rattle.std.proofs.Common.{◌≡◌, ◌++◌, ℕ, ◌≤◌, drop, length, reverse}
use Rattle.at_body.specs.Pieces.{asked}
use Rattle.at_search.proofs.ended.add_atoms.Given as goal

abbrev pub invariant-loop-count : goal.invariant-loop-count
invariant-loop-count l = record {
  most : l.count ≤ length l.pieces;
  todo : reverse l.todo.items ≡ asked (drop l.count l.pieces) ++ reverse l.initial.todo.items;
}

abbrev pub decreases-loop-count : goal.decreases-loop-count
decreases-loop-count l = l.count
