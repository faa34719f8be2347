use Rattle.std.proofs.Common.{◌≡◌, ◌≤◌, ◌+◌, ◌*◌, ◌-◌, ◌++◌, [], ◌∷◌, length, map}
use Rattle.at_model.specs.Classes.{name_of}
use Rattle.at_class.specs.View.{part_view}
use Rattle.at_store.specs.Grown.{shown_below}
use Rattle.at_store.specs.Memory.{class_in}
use Rattle.at_store.specs.View.{memory_of}
use Rattle.at_store.proofs.TextsBelow.{numbers_so_far, slots_so_far, written_so_far}
use Rattle.at_store.proofs.writing.+append.Given as goal

abbrev pub decreases-append_tree : goal.decreases-append_tree
decreases-append_tree l = 5 * l.levels

abbrev pub decreases-append_list : goal.decreases-append_list
decreases-append_list l = 5 * l.levels + 1

abbrev pub decreases-append_kid : goal.decreases-append_kid
decreases-append_kid l = 5 * l.levels + 2

abbrev pub decreases-append_kids : goal.decreases-append_kids
decreases-append_kids l = 5 * l.levels + 3

abbrev pub decreases-append_slot : goal.decreases-append_slot
decreases-append_slot l = 5 * l.levels + 4

abbrev pub invariant-append_tree-loop-i : goal.invariant-append_tree-loop-i
invariant-append_tree-loop-i l = (l.out.items ≡ l.fn.out.items
    ++ ((name_of l.classes (class_in (memory_of l.slab) l.fn.node) ++ 40 ∷ [])
    ++ slots_so_far l.classes (shown_below (memory_of l.slab) (l.levels - 1)) (map part_view l.parts) l.slot-items l.i))
    × (l.count ≡ length (written_so_far l.classes (shown_below (memory_of l.slab) (l.levels - 1)) (map part_view l.parts) l.slot-items l.i))
    × (l.count ≤ l.i)

abbrev pub invariant-append_list-loop-i : goal.invariant-append_list-loop-i
invariant-append_list-loop-i l = l.out.items ≡ l.fn.out.items ++ (91 ∷ numbers_so_far l.classes (shown_below (memory_of l.slab) l.levels) l.kids l.i)
