use Rattle.std.proofs.Common.{rules, ◌≡◌, ◌≤◌, ℕ, List, length, sym, subst}
use Rattle.std.specs.List.{insert}
use Rattle.slab.specs.Slab.{with_value}
use Rattle.at_store.specs.Memory.{kids_in, relinked}
use Rattle.at_store.specs.Reserving.{HasRoom}
use Rattle.at_store.specs.View.{stored_of}
use Rattle.at_store.proofs.of_edits.Reserved.{kids_were, new_entry, relinked_later, relinked_nowhere, room_was}
use Rattle.at_store.proofs.Written.{marks_same}
use Rattle.at_store.proofs.changes.insert_kid.Goals as goal

pub returns-in-Some : goal.returns-in-Some
returns-in-Some c = record {
  marks = marks_same c.args.slab.now c.index.result c.in-Some.entry.now c.insert_in_cells.new.cells c.in-Some.ensures.value;
  written = λ room within.
      let s = c.args.slab.now in
      let key = c.index.result in
      let part = c.args.part in
      let a = c.in-Some.entry.now in
      let there = c.in-Some.ensures.value in
      let cells = c.insert_in_cells.new.cells in
      let room' : HasRoom s key part = subst (λ (j : ℕ). HasRoom s j part) (sym c.index.ensures) room in
      let within' : c.args.index ≤ length (kids_in (stored_of s key) part) = subst (λ (j : ℕ). c.args.index ≤ length (kids_in (stored_of s j) part)) (sym c.index.ensures) within in
      subst (λ (j : ℕ). (k : ℕ) → stored_of (with_value s key (new_entry s key a cells there)) k ≡ relinked j part (λ ns. insert ns c.args.index c.args.new) k (stored_of s k)) c.index.ensures
      (relinked_later s key a cells there (λ ns. insert ns c.args.index c.args.new) part
      (c.insert_in_cells.ensures (room_was s key a cells there part room') (subst (λ (ns : List ℕ). c.args.index ≤ length ns) (sym (kids_were s key a cells there part)) within')));
}

pub returns-in_default : goal.returns-in_default
returns-in_default c = record {
  marks = search rules;
  written = λ room within.
      let s = c.args.slab.now in
      subst (λ (j : ℕ). (k : ℕ) → stored_of s k ≡ relinked j c.args.part (λ ns. insert ns c.args.index c.args.new) k (stored_of s k)) c.index.ensures
      (relinked_nowhere s c.index.result c.in_default.ensures.value (λ ns. insert ns c.args.index c.args.new) c.args.part);
}
