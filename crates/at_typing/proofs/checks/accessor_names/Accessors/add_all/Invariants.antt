use Rattle.std.proofs.Common.{map, drop}
use Rattle.at_class.specs.View.{part_view}
use Rattle.at_typing.proofs.AccessorNaming.{AddsLeft}
use Rattle.at_typing.proofs.checks.accessor_names.Accessors.add_all.Given as goal

abbrev pub invariant-loop-part : goal.invariant-loop-part
invariant-loop-part l = AddsLeft (map part_view (drop l.part-index l.parts)) (map part_view l.parts) l.fn.self l.self
