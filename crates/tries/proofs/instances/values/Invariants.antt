use Rattle.std.specs.Prelude.{map}
use Rattle.std.specs.List.{AllByRecursion}
use Rattle.at_body.specs.Values.{value_view}
use Rattle.tries.specs.Worlds.{RefersThere}
use Rattle.tries.proofs.instances.values.Given as goal

-- the values so far refer to nodes that are there
abbrev pub invariant-loop-argument : goal.invariant-loop-argument
invariant-loop-argument l = AllByRecursion (RefersThere l.fn.world) (map value_view l.values.items)
