use Rattle.std.proofs.Common.{◌≡◌, ◌+◌, ◌++◌, map, drop}
use Rattle.at_jrag.specs.View.{aspect_view}
use Rattle.at_start.specs.Redeclaring.{in_files}
use Rattle.at_start.proofs.redeclared.signatures_in.Given as goal

-- those of the files that are left are still to come
abbrev pub invariant-loop-i : goal.invariant-loop-i
invariant-loop-i l = l.all.items ++ in_files l.classes (l.i + 1) (map (λ f. map aspect_view f.items) (drop l.i l.files))
    ≡ in_files l.classes 1 (map (λ f. map aspect_view f.items) l.files)
