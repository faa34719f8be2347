use Rattle.at_store.specs.Held.{held}
use Rattle.at_store.proofs.PutBack.{back_same, room_back}
use Rattle.at_store.proofs.of_planting.Gains.{on_ok}
use Rattle.at_store.proofs.changes.reserve_in_cells.Goals as goal

pub returns-clause-stays : goal.returns-clause-stays
returns-clause-stays c = back_same (held c.args.cells.now) _ _ c.args.part c.take-slot.result c.reserve_in_slot-reserved.new.slot
    c.take-slot.ensures.taken c.take-slot.ensures.left c.put.ensures c.reserve_in_slot-reserved.ensures.stays

pub returns-clause-room : goal.returns-clause-room
returns-clause-room c = on_ok c.reserve_in_slot-reserved.result
    (room_back _ _ c.args.part c.reserve_in_slot-reserved.new.slot c.put.ensures) c.reserve_in_slot-reserved.ensures.room
