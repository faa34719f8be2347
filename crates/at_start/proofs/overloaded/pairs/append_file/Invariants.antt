use Rattle.std.proofs.Common.{◌≡◌, ◌++◌, map, drop}
use Rattle.std.specs.List.{flat_map}
use Rattle.at_jrag.specs.View.{aspect_view}
use Rattle.at_start.specs.Overloading.{all_in}
use Rattle.at_start.proofs.overloaded.pairs.append_file.Given as goal

-- those of the aspects that are left are still to come
abbrev pub invariant-loop-aspect : goal.invariant-loop-aspect
invariant-loop-aspect l = l.all.items ++ flat_map all_in (map aspect_view (drop l.aspect-index
    l.aspects))
    ≡ l.initial.all.items ++ flat_map all_in (map aspect_view l.aspects)
