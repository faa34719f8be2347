use Rattle.std.proofs.Common.{rules, ◌≡◌, List, Some, sym, ap, ◌∙◌, subst}
use Rattle.std.specs.List.{slice_get}
use Rattle.slab.specs.Slab.{Slab}
use Rattle.at_store.specs.Memory.{AreAlike, index_in, place_in, taken_out, top, up_in, with_index}
use Rattle.at_store.specs.Reserving.{HasRoom, HasSpace}
use Rattle.at_store.specs.View.{memory_of, stored_of}
use Rattle.at_store.specs.declared.entry.Entry.{Entry}
use Rattle.at_store.specs.declared.entry.Slot.{Slot}
use Rattle.at_store.proofs.Arranged.{reindexed_alike}
use Rattle.at_store.proofs.of_edits.Alike.{placed_alike}
use Rattle.at_store.proofs.changes.lift.Goals.{in-Some, in_default}
use Rattle.at_store.proofs.changes.lift.Goals as goal

pub returns : goal.returns
returns c = record {
  marks = search rules;
  room = λ k part room.
      let mid : HasRoom c.match-up_at.slab k part = elim c.match-up_at.branch [
        | in-Some w ↦ subst (λ (s : Slab Entry). HasRoom s k part) (sym w.slab-is) (w.close_gap.ensures.room k part room)
        | in_default w ↦ subst (λ (s : Slab Entry). HasRoom s k part) (sym w.slab-is) room
      ] in
      subst (λ (slots : List Slot). HasSpace (slice_get slots part)) (sym (c.write_alone.ensures.slots k)) mid;
  written = λ once.
      let old = memory_of c.args.slab.now in
      let node = c.args.node in
      let index = index_in (old node) in
      let gap : AreAlike (taken_out (up_in (old node)) index old) (stored_of c.match-up_at.slab) = elim c.match-up_at.branch [
        | in-Some w ↦ (
            let up : up_in (old node) ≡ Some w.in-Some.place = sym c.up_at.ensures ∙ w.in-Some.is in
            let closed = w.close_gap.ensures.written old (reindexed_alike (place_in (stored_of c.args.slab.now)) (stored_of c.args.slab.now)) in
            λ k. ap (λ o. with_index 0 (taken_out o index old k)) up ∙
            ap (λ j. with_index 0 (taken_out (Some w.in-Some.place) j old k)) (sym (c.index_at-index.ensures once))
            ∙ closed k ∙ ap (λ (s : Slab Entry). with_index 0 (stored_of s k)) (sym w.slab-is))
        | in_default w ↦ (λ k. ap (λ o. with_index 0 (taken_out o index old k)) (sym c.up_at.ensures
            ∙ w.in_default.is) ∙ reindexed_alike (place_in (stored_of c.args.slab.now)) (stored_of c.args.slab.now) k
            ∙ ap (λ (s : Slab Entry). with_index 0 (stored_of s k)) (sym w.slab-is))
      ] in
      λ k. placed_alike node top (taken_out (up_in (old node)) index old) (stored_of c.match-up_at.slab) gap k ∙ ap (with_index 0) (sym (c.write_alone.ensures.written k));
}
