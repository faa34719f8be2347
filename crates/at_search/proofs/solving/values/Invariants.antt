use Rattle.std.proofs.Common.{◌≡◌, map, take}
use Rattle.at_search.specs.Solved.{solved_at}
use Rattle.at_search.proofs.solving.values.Given as goal

abbrev pub invariant-loop-position : goal.invariant-loop-position
invariant-loop-position l = l.values.items ≡ map (solved_at l.system.conditions.start l.leave) (take l.position-index l.group)
