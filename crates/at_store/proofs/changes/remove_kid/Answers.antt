use Rattle.std.proofs.Common.{◌≡◌, ℕ, subst}
use Rattle.std.specs.List.{remove}
use Rattle.slab.specs.Slab.{with_value}
use Rattle.at_store.specs.Memory.{relinked}
use Rattle.at_store.specs.View.{stored_of}
use Rattle.at_store.proofs.of_edits.Reserved.{new_entry, relinked_later, room_kept}
use Rattle.at_store.proofs.Written.{marks_same}
use Rattle.at_store.proofs.changes.remove_kid.Goals as goal

pub returns-in-Some : goal.returns-in-Some
returns-in-Some c = record {
  written =
      subst (λ (j : ℕ). (k : ℕ) → stored_of (with_value c.args.slab.now c.index.result
      (new_entry c.args.slab.now c.index.result c.in-Some.entry.now c.remove_in_cells.new.cells c.in-Some.ensures.value)) k
      ≡ relinked j c.args.part (λ ns. remove ns c.args.index) k (stored_of c.args.slab.now k)) c.index.ensures
      (relinked_later c.args.slab.now c.index.result c.in-Some.entry.now c.remove_in_cells.new.cells c.in-Some.ensures.value
      (λ ns. remove ns c.args.index) c.args.part c.remove_in_cells.ensures.written);
  marks = marks_same c.args.slab.now c.index.result c.in-Some.entry.now c.remove_in_cells.new.cells c.in-Some.ensures.value;
  room = room_kept c.args.slab.now c.index.result c.in-Some.entry.now c.remove_in_cells.new.cells c.in-Some.ensures.value c.remove_in_cells.ensures.room;
}
