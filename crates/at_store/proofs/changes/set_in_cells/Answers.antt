use Rattle.at_store.specs.Held.{held}
use Rattle.at_store.proofs.PutBack.{back_shown}
use Rattle.at_store.proofs.changes.set_in_cells.Goals as goal

pub returns : goal.returns
returns c = back_shown (held c.args.cells.now) _ _ c.args.part c.take-slot.result c.set_in_slot.new.slot
    c.take-slot.ensures.taken c.take-slot.ensures.left c.put.ensures _ c.set_in_slot.ensures
