use Rattle.std.proofs.Common.{◌≡◌, map, take, ◌++◌}
use Rattle.at_class.specs.View.{part_view}
use Rattle.at_class.proofs.chain.append.Given as goal

abbrev pub invariant-loop-part : goal.invariant-loop-part
invariant-loop-part l = map part_view l.parts.items ≡ map part_view l.fn.parts.items ++ map part_view (take l.part-index l.more)
