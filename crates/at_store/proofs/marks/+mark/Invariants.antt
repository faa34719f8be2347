use Rattle.std.proofs.Common.{◌≡◌, ℕ, suc, ◌+◌, ◌*◌, ◌≤◌, Bool, length}
use Rattle.at_model.specs.Trees.{Tree, class_of}
use Rattle.at_store.specs.Memory.{IsShallow, IsSpreadTo, Place, Stored, cells_in, kids_in}
use Rattle.at_store.specs.Numbers.{IsApart}
use Rattle.at_store.specs.View.{leaves_in, memory_of}
use Rattle.at_store.proofs.marks.+mark.Given as goal

abbrev pub decreases-mark : goal.decreases-mark
decreases-mark l = 2 * l.levels

abbrev pub decreases-mark_slot : goal.decreases-mark_slot
decreases-mark_slot l = 2 * l.levels + 1

abbrev pub invariant-mark-loop-part : goal.invariant-mark-loop-part
invariant-mark-loop-part l = record {
  end : l.part-end ≡ length (cells_in (memory_of l.fn.slab l.node));
  stays : (k : ℕ) → memory_of l.slab k ≡ memory_of l.fn.slab k;
  marks : (place : Place) (x : Tree) → class_of x ≡ l.node → IsApart x → Stored (memory_of l.fn.slab) place x
      → IsShallow l.levels x → IsSpreadTo l.leaves (leaves_in l.fn.slab) (leaves_in l.slab) x (l.part, 0);
}

abbrev pub invariant-mark_slot-loop-index : goal.invariant-mark_slot-loop-index
invariant-mark_slot-loop-index l = record {
  end : l.index-end ≡ length (kids_in (memory_of l.fn.slab l.node) l.part);
  within : l.index ≤ l.index-end;
  stays : (k : ℕ) → memory_of l.slab k ≡ memory_of l.fn.slab k;
  marks : (first : ℕ → Bool) (place : Place) (x : Tree) → class_of x ≡ l.node → IsApart x → Stored (memory_of l.fn.slab) place x → IsShallow (suc l.levels) x →
      IsSpreadTo l.leaves first (leaves_in l.fn.slab) x (l.part, 0) → IsSpreadTo l.leaves first (leaves_in l.slab) x (l.part, l.index);
}
