use Rattle.std.proofs.Common.{take}
use Rattle.at_search.specs.Solved.{HasOpenedAll}
use Rattle.at_search.proofs.system.System.shut.Given as goal

abbrev pub invariant-loop-member : goal.invariant-loop-member
invariant-loop-member l = HasOpenedAll (take l.member-index l.group) l.fn.self l.self
