use Rattle.std.proofs.Common.{◌≡◌, ◌++◌, drop, filter_map, map}
use Rattle.at_class.specs.View.{part_view}
use Rattle.at_start.specs.Lists.{alias_of}
use Rattle.at_start.proofs.lists.append_aliases.Given as goal

-- those of the components that are left are still to come
abbrev pub invariant-loop-part : goal.invariant-loop-part
invariant-loop-part l = l.all.items ++ filter_map (alias_of l.classes) (map part_view (drop l.part-index l.parts))
    ≡ l.initial.all.items ++ filter_map (alias_of l.classes) (map part_view l.parts)
