use Rattle.std.proofs.Common.{◌≡◌, ◌++◌, map, length}
use Rattle.at_model.specs.Support.{argument_classes}
use Rattle.at_body.specs.Values.{value_view}
use Rattle.at_body.proofs.starting.look_at.Given as goal

abbrev pub invariant-loop-value : goal.invariant-loop-value
invariant-loop-value l = l.reads ++ argument_classes (map value_view l.rest) ≡ l.initial.reads ++ argument_classes (map value_view l.arguments)

abbrev pub decreases-loop-value : goal.decreases-loop-value
decreases-loop-value l = length l.rest
