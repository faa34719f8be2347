use Rattle.std.proofs.Common.{take}
use Rattle.at_search.specs.Solved.{AreClosed}
use Rattle.at_search.proofs.system.System.are_closed.Given as goal

abbrev pub invariant-loop-target : goal.invariant-loop-target
invariant-loop-target l = AreClosed l.self.open.items (take l.target-index l.targets)
