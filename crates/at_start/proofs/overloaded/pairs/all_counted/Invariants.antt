use Rattle.std.proofs.Common.{◌≡◌, ◌++◌, map, drop}
use Rattle.std.specs.List.{flat_map}
use Rattle.at_jrag.specs.View.{aspect_view}
use Rattle.at_start.specs.Overloading.{all_counted, all_in}
use Rattle.at_start.proofs.overloaded.pairs.all_counted.Given as goal

-- those of the files that are left are still to come
abbrev pub invariant-loop-aspects : goal.invariant-loop-aspects
invariant-loop-aspects l = l.all.items ++ all_counted (map (λ f. map aspect_view f.items) (drop l.aspects-index l.files))
    ≡ all_counted (map (λ f. map aspect_view f.items) l.files)
