use Rattle.std.proofs.Common.{◌≡◌, map, take}
use Rattle.at_protocol.specs.LineView.{argument_view}
use Rattle.at_protocol.proofs.line.copied.copied_arguments.Given as goal

abbrev pub invariant-loop-argument : goal.invariant-loop-argument
invariant-loop-argument l = map argument_view l.copies.items ≡ map argument_view (take l.argument-index l.arguments)
