use Rattle.at_cache.proofs.Common.{◌≡◌, ◌+◌, ◌*◌, ℕ, List, Some, take, Instance, Location, Edge, memory_of, AreTaken, IsWhole, instances_in, kept_held, remembered, AreAllKept, Trace}
use Rattle.at_cache.specs.Settling.{GoesOn}
use Rattle.at_cache.proofs.settling.+settling.Given as goal

abbrev pub decreases-settle_all : goal.decreases-settle_all
decreases-settle_all l = 3 * l.levels + 2

abbrev pub decreases-settle_at : goal.decreases-settle_at
decreases-settle_at l = 3 * l.levels + 1

abbrev pub decreases-settle_below : goal.decreases-settle_below
decreases-settle_below l = 3 * l.levels

abbrev pub invariant-settle_all-loop-slot : goal.invariant-settle_all-loop-slot
invariant-settle_all-loop-slot l = (lists : Location ℕ → List Edge)
    → IsWhole lists l.entries l.initial.standings.items l.initial.counts
    → AreTaken (memory_of l.entries) l.slots → (i : Instance ℕ) (trace : Trace)
    → (remembered lists l.entries l.initial.standings.items).traced i ≡ Some trace
    → trace.uses ≡ instances_in (memory_of l.entries) l.slots
    → GoesOn lists l.entries i l.initial.standings.items l.initial.counts l.standings.items l.counts
    × AreAllKept (kept_held lists l.entries l.standings.items l.counts.puts)
    (instances_in (memory_of l.entries) (take l.slot-index l.slots))
