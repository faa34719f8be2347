use Rattle.std.proofs.Common.{◌≡◌, ◌++◌, length, map}
use Rattle.std.specs.Vec.Iter.{into_iter_items, into_iter_len}
use Rattle.at_jrag.specs.View.{aspect_view}
use Rattle.at_start.specs.Spreading.{aspect_spread}
use Rattle.at_start.proofs.everywhere.spread_file.Given as goal

-- those that are left are still to come
abbrev pub invariant-loop-aspect : goal.invariant-loop-aspect
invariant-loop-aspect l =
    (map aspect_view l.all.items ++ map (aspect_spread l.classes l.own.attributes.items l.own.equations.items) (map aspect_view (into_iter_items
    l.aspect-iterator))
    ≡ map (aspect_spread l.classes l.own.attributes.items l.own.equations.items) (map aspect_view (into_iter_items l.initial.aspect-iterator)))
    × (into_iter_len l.aspect-iterator ≡ length (into_iter_items l.aspect-iterator))
