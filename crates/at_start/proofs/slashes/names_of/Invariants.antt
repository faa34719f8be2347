use Rattle.std.proofs.Common.{◌≡◌, map, take}
use Rattle.at_start.proofs.slashes.names_of.Given as goal

abbrev pub invariant-loop-slashed : goal.invariant-loop-slashed
invariant-loop-slashed l = l.names.items ≡ map (λ s. s.name) (take l.slashed-index l.found)
