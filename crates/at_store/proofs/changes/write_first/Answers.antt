use Rattle.at_store.proofs.of_edits.Reserved.{room_kept}
use Rattle.at_store.proofs.Written.{marks_same, written_same}
use Rattle.at_store.proofs.changes.write_first.Goals as goal

pub returns-in-Some : goal.returns-in-Some
returns-in-Some c = record {
  written = written_same c.args.slab.now c.index.result c.in-Some.entry.now c.set_first.new.cells c.in-Some.ensures.value c.set_first.ensures.stays;
  marks = marks_same c.args.slab.now c.index.result c.in-Some.entry.now c.set_first.new.cells c.in-Some.ensures.value;
  room = room_kept c.args.slab.now c.index.result c.in-Some.entry.now c.set_first.new.cells c.in-Some.ensures.value c.set_first.ensures.room;
}
