use Rattle.at_cache.proofs.Common.{◌≡◌, ℕ, Contains, take, true, is_known}
use Rattle.at_cache.proofs.blocking.first_open.Given as goal

abbrev pub invariant-loop-slot : goal.invariant-loop-slot
invariant-loop-slot l = (q : ℕ) → Contains (take l.slot-index l.slots) q → is_known l.entries l.standings q ≡ true
