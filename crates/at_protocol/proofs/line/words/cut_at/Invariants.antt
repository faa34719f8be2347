use Rattle.std.proofs.Common.{◌≤◌, ◌-◌, length}
use Rattle.at_protocol.proofs.Cuts.{NoneBefore}
use Rattle.at_protocol.proofs.line.words.cut_at.Given as goal

abbrev pub invariant-loop-at : goal.invariant-loop-at
invariant-loop-at l = (l.at ≤ length l.bytes) × NoneBefore l.sign l.bytes l.at

abbrev pub decreases-loop-at : goal.decreases-loop-at
decreases-loop-at l = length l.bytes - l.at
