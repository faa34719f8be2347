use Rattle.at_index.proofs.Common.{◌≡◌, ◌+◌, ◌≤◌, length}
use Rattle.at_index.proofs.stretch.before_fold.Given as goal

abbrev pub invariant-loop-place : goal.invariant-loop-place
invariant-loop-place l = record {
  behind : length l.rest + l.place ≡ length l.locations;
  first : l.first ≤ length l.locations;
}
