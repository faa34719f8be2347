-- A tree that is brought into a store, and waits there.
use Rattle.std.specs.Prelude.{◌≡◌, ℕ, true, Some, None}
use Rattle.at_model.specs.Trees.{Tree, class_of}
use Rattle.at_store.specs.Marking.{AreMarkedBelow}
use Rattle.at_store.specs.Memory.{IsFreed, top}
use Rattle.at_store.specs.Planting.{IsAsBefore, IsPlanted}
use Rattle.at_store.specs.Shown.{Shown}
use Rattle.at_store.specs.View.{memory_of}

-- all but the nodes and what waits is as before
abbrev pub IsRestAsBefore : (before later : Shown) → Type 0
IsRestAsBefore before later = (later.root ≡ before.root) × (later.leaving ≡ before.leaving) × (later.limit ≡ before.limit)

abbrev pub IsStoreAsBefore : (before later : Shown) → Type 0
IsStoreAsBefore before later = IsAsBefore (memory_of before.slab) (memory_of later.slab) × (later.waiting ≡ before.waiting) × IsRestAsBefore before later

-- the tree is planted beside what there is, and waits under this number
abbrev pub IsBrought : (before later : Shown) → Tree → ℕ → Type 0
IsBrought before later t new =
    ((w : Tree) × (class_of w ≡ new) × IsPlanted (memory_of before.slab) (memory_of later.slab) top t w) × (later.waiting ≡ Some new)
    × IsRestAsBefore before later

-- what waited is freed
abbrev pub IsUnbrought : (before later : Shown) → Type 0
IsUnbrought before later = ((new : ℕ) → before.waiting ≡ Some new → IsFreed new (memory_of before.slab) (memory_of later.slab)) × (later.waiting ≡ None)
    × IsRestAsBefore before later

-- nodes are marked; all else is as before
abbrev pub IsMarking : (before later : Shown) → Type 0
IsMarking before later = IsAsBefore (memory_of before.slab) (memory_of later.slab) × (later.root ≡ before.root) × (later.waiting ≡ before.waiting)
    × (later.limit ≡ before.limit)

-- the node leaves, with all below it
abbrev pub IsLeaving : (node : ℕ) → (before later : Shown) → Type 0
IsLeaving node before later = IsMarking before later × (later.leaving ≡ Some node) × AreMarkedBelow node true 512 before.slab later.slab
