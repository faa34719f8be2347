use Rattle.std.proofs.Common.{ℕ, refl, subst}
use Rattle.slab.specs.Slab.{with_value}
use Rattle.at_store.specs.Reserving.{HasRoom}
use Rattle.at_store.proofs.of_planting.Gains.{on_ok}
use Rattle.at_store.proofs.of_edits.Reserved.{new_entry, no_room_needed, room_taken}
use Rattle.at_store.proofs.Written.{marks_same, written_same}
use Rattle.at_store.proofs.Arranged.{arranged_same}
use Rattle.at_store.proofs.changes.reserve.Goals as goal

pub returns-in-Some : goal.returns-in-Some
returns-in-Some c =
    let s = c.args.slab.now in
    let key = c.index.result in
    let a = c.in-Some.entry.now in
    let cells = c.reserve_in_cells.new.cells in
    let there = c.in-Some.ensures.value in
    record {
      stays = arranged_same _ _ (written_same s key a cells there c.reserve_in_cells.ensures.stays);
      marks = marks_same s key a cells there;
      room = on_ok c.reserve_in_cells.result
          (λ space. subst (λ (j : ℕ). HasRoom (with_value s key (new_entry s key a cells there)) j c.args.part)
          c.index.ensures (room_taken s key a cells there c.args.part space)) c.reserve_in_cells.ensures.room;
    }

pub returns-in-None : goal.returns-in-None
returns-in-None c = record {
  stays = λ k. refl;
  marks = λ k. refl;
  room = subst (λ (j : ℕ). HasRoom c.args.slab.now j c.args.part) c.index.ensures (no_room_needed c.args.slab.now c.index.result c.args.part c.in-None.ensures.value);
}
