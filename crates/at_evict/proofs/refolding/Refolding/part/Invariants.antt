use Rattle.at_evict.proofs.Common.{◌≡◌, ◌-◌, [], length, into_of, memory_of, edges_along}
use Rattle.at_evict.proofs.of_folding.Parting.{PartedTo}
use Rattle.at_evict.proofs.refolding.Refolding.part.Given as goal

abbrev pub invariant-loop-place : goal.invariant-loop-place
invariant-loop-place l = l.initial.room.slots.items ≡ []
    → PartedTo (memory_of l.self.entries.now) (into_of l.self) (edges_along l.initial.rows.items) l.rows.items l.place l.room.slots.items

abbrev pub decreases-loop-place : goal.decreases-loop-place
decreases-loop-place l = length l.rows.items - l.place
