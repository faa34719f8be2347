use Rattle.at_index.proofs.Common.{◌≡◌, take}
use Rattle.at_index.proofs.edge.are_same.Given as goal

abbrev pub invariant-loop-place : goal.invariant-loop-place
invariant-loop-place l = take l.place l.rows ≡ take l.place l.others
