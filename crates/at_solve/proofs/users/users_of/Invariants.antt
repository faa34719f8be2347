use Rattle.std.proofs.Common.{◌≡◌, length}
use Rattle.at_solve.proofs.UserLemmas.{ListedTo}
use Rattle.at_solve.proofs.users.users_of.Given as goal

abbrev pub invariant-loop-position : goal.invariant-loop-position
invariant-loop-position l = record {
  size : length l.users.items ≡ length l.system;
  listed : ListedTo l.system l.position l.users.items;
}
