use Rattle.std.proofs.Common.{◌≡◌, length}
use Rattle.at_solve.proofs.users.empty_lists.Given as goal

abbrev pub invariant-loop-position : goal.invariant-loop-position
invariant-loop-position l = length l.users.items ≡ l.position
