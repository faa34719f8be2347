use Rattle.std.proofs.Common.{◌++◌, drop}
use Rattle.std.specs.List.{flat_map}
use Rattle.at_model.specs.Machine.{marks_in, marks_in_argument}
use Rattle.at_protocol.specs.LineView.{arguments_view, place_view}
use Rattle.at_engine.specs.Marks.{listed}
use Rattle.at_engine.proofs.of_marks.Copying.{CopiedUpTo}
use Rattle.at_engine.proofs.marks.Marks.asked.Given as goal

-- the marks before the rest are copied
abbrev pub invariant-loop-argument : goal.invariant-loop-argument
invariant-loop-argument l =
    CopiedUpTo l.session (marks_in (place_view l.fn.place) ++ flat_map marks_in_argument (arguments_view l.fn.arguments)) (listed l.fn.self.items.entries) l.copies.items.items (drop l.argument-index l.arguments)
