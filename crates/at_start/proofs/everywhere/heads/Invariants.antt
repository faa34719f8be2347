use Rattle.std.proofs.Common.{◌≡◌, ◌++◌, map, drop}
use Rattle.std.specs.List.{flat_map}
use Rattle.at_jrag.specs.View.{aspect_view}
use Rattle.at_start.specs.Spreading.{heads, heads_in}
use Rattle.at_start.proofs.everywhere.heads.Given as goal

-- those of the files that are left are still to come
abbrev pub invariant-loop-aspects : goal.invariant-loop-aspects
invariant-loop-aspects l = l.all.items ++ heads l.sought (map (λ f. map aspect_view f.items) (drop l.aspects-index l.files))
    ≡ heads l.sought (map (λ f. map aspect_view f.items) l.files)
