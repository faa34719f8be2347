use Rattle.at_store.specs.Held.{held}
use Rattle.at_store.proofs.PutBack.{back_room, back_shown}
use Rattle.at_store.proofs.changes.remove_in_cells.Goals as goal

pub returns-clause-written : goal.returns-clause-written
returns-clause-written c = back_shown (held c.args.cells.now) _ _ c.args.part c.take-slot.result c.remove_in_slot.new.slot
    c.take-slot.ensures.taken c.take-slot.ensures.left c.put.ensures _ c.remove_in_slot.ensures.written

pub returns-clause-room : goal.returns-clause-room
returns-clause-room c = back_room (held c.args.cells.now) _ _ c.args.part c.take-slot.result c.remove_in_slot.new.slot
    c.take-slot.ensures.taken c.take-slot.ensures.left c.put.ensures c.remove_in_slot.ensures.room
