use Rattle.at_store.specs.Held.{held}
use Rattle.at_store.proofs.PutBack.{back_room, back_same}
use Rattle.at_store.proofs.changes.set_first.Goals as goal

pub returns-clause-stays : goal.returns-clause-stays
returns-clause-stays c = back_same (held c.args.cells.now) _ _ c.args.part c.take-slot.result c.set_first_in_slot.new.slot
    c.take-slot.ensures.taken c.take-slot.ensures.left c.put.ensures c.set_first_in_slot.ensures.stays

pub returns-clause-room : goal.returns-clause-room
returns-clause-room c = back_room (held c.args.cells.now) _ _ c.args.part c.take-slot.result c.set_first_in_slot.new.slot
    c.take-slot.ensures.taken c.take-slot.ensures.left c.put.ensures c.set_first_in_slot.ensures.room
