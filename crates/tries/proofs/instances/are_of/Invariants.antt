use Rattle.std.specs.Prelude.{map, length}
use Rattle.std.specs.List.{AllByRecursion}
use Rattle.at_model.specs.Instances.{AnyText}
use Rattle.at_model.specs.TypedRuns.{AreArguments}
use Rattle.at_rules.specs.Bodies.{kind_view}
use Rattle.at_body.specs.Values.{value_view}
use Rattle.tries.specs.Worlds.{classes_at, RefersThere}
use Rattle.tries.proofs.instances.are_of.Given as goal

-- the values fit where the rest does, which refers to nodes that are there
abbrev pub invariant-loop-kind : goal.invariant-loop-kind
invariant-loop-kind l =
    (AreArguments l.fn.world.rules.classes (classes_at l.fn.world) AnyText (map value_view l.rest) (map kind_view l.wanted)
    → AreArguments l.fn.world.rules.classes (classes_at l.fn.world) AnyText (map value_view l.fn.values) (map kind_view l.fn.kinds))
    × AllByRecursion (RefersThere l.fn.world) (map value_view l.rest)

abbrev pub decreases-loop-kind : goal.decreases-loop-kind
decreases-loop-kind l = length l.wanted
