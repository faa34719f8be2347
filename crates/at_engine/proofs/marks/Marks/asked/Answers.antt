use Rattle.std.proofs.Common.{◌++◌, arith, refl}
use Rattle.std.specs.List.{flat_map}
use Rattle.at_model.specs.Machine.{marks_in, marks_in_argument}
use Rattle.at_protocol.specs.LineView.{arguments_view, place_view}
use Rattle.at_engine.specs.Marks.{listed}
use Rattle.at_engine.proofs.of_marks.Copying.{copied_all, copied_first, copied_more}
use Rattle.at_engine.proofs.marks.Marks.asked.Goals as goal

pub loop-argument-init : goal.loop-argument-init
loop-argument-init c =
    copied_first c.args.session (marks_in (place_view c.args.place.now) ++ flat_map marks_in_argument (arguments_view c.args.arguments.now)) (listed c.args.self.now.items.entries) (marks_in (place_view c.args.place.now)) c.new-copies.result.items.items c.copy_in.new.copies.items.items c.args.arguments.now
    c.new-copies.ensures c.in_ok-copy_in.ensures refl

pub loop-argument-preserved : goal.loop-argument-preserved
loop-argument-preserved c =
    copied_more c.args.session (marks_in (place_view c.args.place.now) ++ flat_map marks_in_argument (arguments_view c.args.arguments.now)) (listed c.args.self.now.items.entries) c.loop-argument.copies.items.items c.args.arguments.now c.loop-argument.argument-index c.loop-argument.invariant
    c.copy_in_argument.new.copies.items.items c.argument-item.result (omega arith) c.argument-item.is c.in_ok-copy_in_argument.ensures

pub returns : goal.returns
returns c =
    copied_all c.args.session (marks_in (place_view c.args.place.now) ++ flat_map marks_in_argument (arguments_view c.args.arguments.now)) (listed c.args.self.now.items.entries) c.loop-argument.copies.items.items c.args.arguments.now c.loop-argument.argument-index c.loop-argument.invariant (omega arith)
