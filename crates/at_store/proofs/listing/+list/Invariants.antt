use Rattle.std.proofs.Common.{◌≡◌, ℕ, suc, ◌+◌, ◌*◌, ◌≤◌, Bool, true, length}
use Rattle.at_model.specs.Trees.{Tree, class_of}
use Rattle.at_store.specs.Leaving.{is_listed}
use Rattle.at_store.specs.Memory.{IsShallow, IsSpreadTo, Place, Stored, cells_in, kids_in}
use Rattle.at_store.specs.Numbers.{IsApart}
use Rattle.at_store.specs.View.{memory_of}
use Rattle.at_store.proofs.listing.+list.Given as goal

abbrev pub decreases-list : goal.decreases-list
decreases-list l = 2 * l.levels

abbrev pub decreases-list_slot : goal.decreases-list_slot
decreases-list_slot l = 2 * l.levels + 1

abbrev pub invariant-list-loop-part : goal.invariant-list-loop-part
invariant-list-loop-part l = record {
  end : l.part-end ≡ length (cells_in (memory_of l.slab l.node));
  listed : (place : Place) (x : Tree) → class_of x ≡ l.node → IsApart x → Stored (memory_of l.slab) place x
      → IsShallow l.levels x → IsSpreadTo true (is_listed l.fn.all.items) (is_listed l.all.items) x (l.part, 0);
}

abbrev pub invariant-list_slot-loop-index : goal.invariant-list_slot-loop-index
invariant-list_slot-loop-index l = record {
  end : l.index-end ≡ length (kids_in (memory_of l.slab l.node) l.part);
  within : l.index ≤ l.index-end;
  listed : (first : ℕ → Bool) (place : Place) (x : Tree) → class_of x ≡ l.node → IsApart x → Stored (memory_of l.slab) place x → IsShallow (suc l.levels) x →
      IsSpreadTo true first (is_listed l.fn.all.items) x (l.part, 0) → IsSpreadTo true first (is_listed l.all.items) x (l.part, l.index);
}
