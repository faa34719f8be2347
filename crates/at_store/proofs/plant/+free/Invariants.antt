use Rattle.std.proofs.Common.{◌≡◌, ℕ, ◌+◌, ◌*◌, ◌<◌, ◌≤◌, length, map, true, Option, Some}
use Rattle.std.specs.List.{slice_get}
use Rattle.slab.specs.Slab.{slab_len}
use Rattle.at_model.specs.Trees.{Tree, class_of}
use Rattle.at_store.specs.Numbers.{IsApart}
use Rattle.at_store.specs.Memory.{Info, Place, Stored, IsFreedTo, kept_of, numbers_in}
use Rattle.at_store.specs.View.{kept_view, leaves_in, stored_of, viewed}
use Rattle.at_store.proofs.plant.+free.Given as goal

abbrev pub decreases-free : goal.decreases-free
decreases-free l = 2 * slab_len l.slab.now

abbrev pub decreases-free_slot : goal.decreases-free_slot
decreases-free_slot l = 2 * slab_len l.slab.now + 1

abbrev pub invariant-free-loop-slot : goal.invariant-free-loop-slot
invariant-free-loop-slot l = record {
  fewer : slab_len l.slab < slab_len l.fn.slab;
  cells : (i : Info) × (stored_of l.fn.slab l.fn.node ≡ Some i) × (i.cells ≡ map kept_view l.slot-items);
  freed : (f : ℕ → Option (ℕ × ℕ) → ℕ → ℕ) (place : Place) (x : Tree) → class_of x ≡ l.fn.node → IsApart x
      → Stored (viewed f l.fn.slab) place x → IsFreedTo (viewed f l.fn.slab) (viewed f l.slab) x (l.slot-index, 0);
  marks : (k : ℕ) → leaves_in l.slab k ≡ true → leaves_in l.fn.slab k ≡ true;
}

abbrev pub invariant-free_slot-loop-kid : goal.invariant-free_slot-loop-kid
invariant-free_slot-loop-kid l = record {
  fewer : slab_len l.slab ≤ slab_len l.fn.slab;
  kids : numbers_in (Some (kept_view l.slot)) ≡ l.kid-items;
  within : l.kid-index ≤ length l.kid-items;
  freed : (f : ℕ → Option (ℕ × ℕ) → ℕ → ℕ) (before : ℕ → Option Info) (place : Place) (x : Tree) (part : ℕ) → IsApart x
      → Stored before place x → slice_get (kept_of x) part ≡ Some (kept_view l.slot)
      → IsFreedTo before (viewed f l.fn.slab) x (part, 0) → IsFreedTo before (viewed f l.slab) x (part, l.kid-index);
  marks : (k : ℕ) → leaves_in l.slab k ≡ true → leaves_in l.fn.slab k ≡ true;
}
