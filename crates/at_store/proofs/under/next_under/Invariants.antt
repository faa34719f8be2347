use Rattle.std.proofs.Common.{◌≡◌, ◌≤◌, length}
use Rattle.at_model.specs.Seeking.{is_in_drawer, those}
use Rattle.at_class.specs.Keys.{key_view}
use Rattle.at_store.specs.Marked.{told}
use Rattle.at_store.specs.View.{memory_of}
use Rattle.at_store.proofs.under.next_under.Given as goal

-- those of what is left are those of all children
abbrev pub invariant-loop-node : goal.invariant-loop-node
invariant-loop-node l =
    let standing = is_in_drawer (told (memory_of l.fn.slab)) (key_view l.fn.key) l.fn.mark in
    (those standing l.rest ≡ those standing l.fn.children) × (length l.rest ≤ length l.fn.children)

abbrev pub decreases-loop-node : goal.decreases-loop-node
decreases-loop-node l = length l.rest
