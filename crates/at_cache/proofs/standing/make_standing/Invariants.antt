use Rattle.at_cache.proofs.Common.{◌≡◌, ◌-◌, ◌+◌, ℕ, length, standing_of}
use Rattle.at_cache.proofs.standing.make_standing.Given as goal

abbrev pub invariant-loop-standings : goal.invariant-loop-standings
invariant-loop-standings l = (k : ℕ) → standing_of l.standings.items k ≡ standing_of l.initial.standings.items k

abbrev pub decreases-loop-standings : goal.decreases-loop-standings
decreases-loop-standings l = l.slot + 1 - length l.standings.items
