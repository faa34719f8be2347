use Rattle.std.proofs.Common.{◌≡◌, map, take}
use Rattle.at_start.proofs.slashes.places_of.Given as goal

abbrev pub invariant-loop-token : goal.invariant-loop-token
invariant-loop-token l = l.places.items ≡ map (λ t. t.at) (take l.token-index l.tokens)
