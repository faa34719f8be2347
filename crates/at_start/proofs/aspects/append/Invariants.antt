use Rattle.std.proofs.Common.{◌≡◌, ◌++◌, length, map}
use Rattle.std.specs.Vec.Iter.{into_iter_items, into_iter_len}
use Rattle.at_java.specs.Seen.{constant_view}
use Rattle.at_start.specs.Constants.{in_file}
use Rattle.at_start.specs.PlacedView.{placed_view}
use Rattle.at_start.proofs.aspects.append.Given as goal

-- those that are left are still to come
abbrev pub invariant-loop-constant : goal.invariant-loop-constant
invariant-loop-constant l =
    (map placed_view l.all.items ++ in_file l.file (map constant_view (into_iter_items l.constant-iterator))
    ≡ map placed_view l.initial.all.items ++ in_file l.file (map constant_view (into_iter_items l.initial.constant-iterator)))
    × (into_iter_len l.constant-iterator ≡ length (into_iter_items l.constant-iterator))
