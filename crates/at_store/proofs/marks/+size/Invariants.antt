use Rattle.std.proofs.Common.{◌≡◌, ◌≤◌, ◌+◌, ◌*◌, ◌-◌, drop, map}
use Rattle.std.specs.Prelude.{min}
use Rattle.at_store.specs.Told.{kids_size, slots_size, size_told}
use Rattle.at_store.specs.View.{kept_view, memory_of}
use Rattle.at_store.proofs.marks.+size.Given as goal

abbrev pub decreases-size_at : goal.decreases-size_at
decreases-size_at l = 2 * l.levels

abbrev pub decreases-list_size : goal.decreases-list_size
decreases-list_size l = 2 * l.levels + 1

-- what is counted, and what is left to count
abbrev pub invariant-size_at-loop-slot : goal.invariant-size_at-loop-slot
invariant-size_at-loop-slot l = (l.count ≤ 18446744073709551615) × (min (l.count + slots_size (size_told
    (memory_of l.slab) (l.levels - 1)) (map kept_view (drop l.slot-index l.slot-items))) 18446744073709551615 ≡ min
    (1 + slots_size (size_told (memory_of l.slab) (l.levels - 1)) (map kept_view l.slot-items)) 18446744073709551615)

abbrev pub invariant-list_size-loop-kid : goal.invariant-list_size-loop-kid
invariant-list_size-loop-kid l = (l.count ≤ 18446744073709551615)
    × (min (l.count + kids_size (size_told (memory_of l.slab) l.levels) (drop l.kid-index l.kids)) 18446744073709551615
    ≡ min (kids_size (size_told (memory_of l.slab) l.levels) l.kids) 18446744073709551615)
