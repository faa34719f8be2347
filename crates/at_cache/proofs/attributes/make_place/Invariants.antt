use Rattle.at_cache.proofs.Common.{◌≡◌, ◌-◌, ◌+◌, ℕ, length, has_come}
use Rattle.at_cache.proofs.attributes.make_place.Given as goal

abbrev pub invariant-loop-attributes : goal.invariant-loop-attributes
invariant-loop-attributes l = (a : ℕ) → has_come l.attributes.items a ≡ has_come l.initial.attributes.items a

abbrev pub decreases-loop-attributes : goal.decreases-loop-attributes
decreases-loop-attributes l = l.attribute + 1 - length l.attributes.items
