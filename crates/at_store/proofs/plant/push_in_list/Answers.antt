use Rattle.std.proofs.Common.{◌≤◌, length, map, sym, arith}
use Rattle.at_store.specs.View.{kept_view}
use Rattle.at_store.proofs.Slots.{none_changed, map_length, set_shown}
use Rattle.at_store.proofs.of_planting.Gains.{at_err}
use Rattle.at_store.proofs.Written.{slot_same}
use Rattle.at_store.proofs.plant.push_in_list.Goals as goal

pub returns-in_err-push_in_slot-clause-kept : goal.returns-in_err-push_in_slot-clause-kept
returns-in_err-push_in_slot-clause-kept c = at_err c.from_residual.result (slot_same c.args.slots.now.items c.args.part
    c.in-Some.slot.now c.push_in_slot.new.slot (sym c.in-Some.ensures.value) c.in_err-push_in_slot.ensures.kept)

pub returns-in_ok-push_in_slot-clause-pushed : goal.returns-in_ok-push_in_slot-clause-pushed
returns-in_ok-push_in_slot-clause-pushed c = set_shown kept_view _ c.args.slots.now.items c.args.part c.in-Some.slot.now
    c.push_in_slot.new.slot (sym c.in-Some.ensures.value) c.in_ok-push_in_slot.ensures.pushed

pub returns-in_default-clause-pushed : goal.returns-in_default-clause-pushed
returns-in_default-clause-pushed c =
    let outside : length c.args.slots.now.items ≤ c.args.part = (c.in_default.ensures {u = tt}).item.3 in
    sym (none_changed _ (map kept_view c.args.slots.now.items) c.args.part (omega (arith, map_length kept_view c.args.slots.now.items)))
