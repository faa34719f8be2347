use Rattle.tries.specs.Worlds.{AreSound}
use Rattle.tries.proofs.answers.Given as goal

-- what is known is of the kinds
abbrev pub invariant-loop-line : goal.invariant-loop-line
invariant-loop-line l = AreSound l.fn.world l.known
