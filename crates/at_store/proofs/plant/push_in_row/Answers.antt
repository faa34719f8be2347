use Rattle.at_store.proofs.PutBack.{row_same, row_shown}
use Rattle.at_store.proofs.of_planting.Gains.{on_err, on_ok}
use Rattle.at_store.proofs.plant.push_in_row.Goals as goal

pub returns-clause-pushed : goal.returns-clause-pushed
returns-clause-pushed g c = on_ok c.push_in_slot.result (row_shown _ c.args.count c.args.row.now.places c.args.part
    c.index-row-part.result c.push_in_slot.new.slot) c.push_in_slot.ensures.pushed

pub returns-clause-kept : goal.returns-clause-kept
returns-clause-kept g c = on_err c.push_in_slot.result (row_same c.args.count c.args.row.now.places c.args.part
    c.index-row-part.result c.push_in_slot.new.slot) c.push_in_slot.ensures.kept
