use Rattle.at_evict.proofs.Common.{◌-◌, length, HaveSame}
use Rattle.at_evict.proofs.joining.join_all.Given as goal

abbrev pub invariant-loop-place : goal.invariant-loop-place
invariant-loop-place l = HaveSame l.initial.readers.items l.readers.items

abbrev pub decreases-loop-place : goal.decreases-loop-place
decreases-loop-place l = length l.readers.items - l.place
