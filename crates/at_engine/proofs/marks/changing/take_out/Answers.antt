use Rattle.std.proofs.Common.{sym}
use Rattle.at_engine.proofs.of_marks.Keys.{place_left, place_taken, place_there}
use Rattle.at_engine.proofs.marks.changing.take_out.Goals as goal

pub returns-in_err-node-clause-left : goal.returns-in_err-node-clause-left
returns-in_err-node-clause-left c = absurd (place_there c.args.session c.args.name.now c.args.items.now.entries c.in_ok-place.place c.in_ok-place.ensures (sym c.in_err-node.ensures.entry))

pub returns-in_err-node-clause-taken : goal.returns-in_err-node-clause-taken
returns-in_err-node-clause-taken c = absurd (place_there c.args.session c.args.name.now c.args.items.now.entries c.in_ok-place.place c.in_ok-place.ensures (sym c.in_err-node.ensures.entry))

pub returns-clause-left : goal.returns-clause-left
returns-clause-left c = place_left c.args.session c.args.name.now c.args.items.now.entries c.in_ok-place.place c.in_ok-place.ensures _ c.shift_remove_index.ensures.entries

pub returns-clause-taken : goal.returns-clause-taken
returns-clause-taken c = place_taken c.args.session c.args.name.now c.args.items.now.entries c.in_ok-place.place c.in_ok-place.ensures _ c.shift_remove_index.ensures.entries _ _ (sym c.in_ok-node.ensures.entry)
