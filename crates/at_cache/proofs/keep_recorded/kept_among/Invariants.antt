use Rattle.at_cache.proofs.Common.{◌≡◌, ◌≤◌, ◌+◌, drop, held_among}
use Rattle.at_cache.proofs.keep_recorded.kept_among.Given as goal

abbrev pub invariant-loop-standing : goal.invariant-loop-standing
invariant-loop-standing l =
    (l.kept + held_among (drop l.standing-index l.standings) ≡ held_among l.standings) × (l.kept ≤ l.standing-index)
