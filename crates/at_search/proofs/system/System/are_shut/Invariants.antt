use Rattle.std.proofs.Common.{take}
use Rattle.at_search.specs.Solved.{AreShut}
use Rattle.at_search.proofs.system.System.are_shut.Given as goal

abbrev pub invariant-loop-member : goal.invariant-loop-member
invariant-loop-member l = AreShut l.self (take l.member-index l.group)
