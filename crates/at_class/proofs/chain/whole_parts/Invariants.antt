use Rattle.std.proofs.Common.{◌≡◌, map, ◌++◌, reverse, vec_len}
use Rattle.at_model.specs.Classes.{parts, own_of}
use Rattle.std.specs.List.{flat_map}
use Rattle.at_class.specs.View.{part_view, classes_view}
use Rattle.at_class.proofs.chain.whole_parts.Given as goal

abbrev pub invariant-loop-above : goal.invariant-loop-above
invariant-loop-above l = parts (classes_view l.classes) l.fn.class ≡ map part_view l.parts.items ++ flat_map (own_of (classes_view l.classes)) (reverse l.way.items)

abbrev pub decreases-loop-above : goal.decreases-loop-above
decreases-loop-above l = vec_len l.way
