use Rattle.std.proofs.Common.{◌≡◌, drop}
use Rattle.std.specs.List.{list_all}
use Rattle.at_model.specs.Machine.{marks_in_argument}
use Rattle.at_protocol.specs.LineView.{argument_view}
use Rattle.at_protocol.specs.declared.line.Argument.{Argument}
use Rattle.at_engine.specs.Marks.{has_mark}
use Rattle.at_engine.proofs.marks.using.has_in_all.Given as goal

-- the marks before are there
abbrev pub invariant-loop-argument : goal.invariant-loop-argument
invariant-loop-argument g l =
    list_all (λ (a : Argument). list_all (has_mark (g.M.Lookup.marks l.fn.marks) l.session) (marks_in_argument (argument_view a))) l.fn.arguments
    ≡ list_all (λ (a : Argument). list_all (has_mark (g.M.Lookup.marks l.fn.marks) l.session) (marks_in_argument (argument_view a))) (drop l.argument-index l.arguments)
