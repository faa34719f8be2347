use Rattle.std.proofs.Common.{◌≤◌, drop, length}
use Rattle.at_java.specs.Noted.{AreNoted}
use Rattle.at_java.proofs.aliases.noted.Given as goal

-- those behind are noted
abbrev pub invariant-loop-left : goal.invariant-loop-left
invariant-loop-left l = AreNoted (drop l.left l.aliases) l.names × (l.left ≤ length l.aliases)

abbrev pub decreases-loop-left : goal.decreases-loop-left
decreases-loop-left l = l.left
