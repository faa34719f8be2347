use Rattle.std.proofs.Common.{◌≡◌, ◌++◌, length, map}
use Rattle.std.specs.List.{flat_map}
use Rattle.std.specs.Vec.Iter.{into_iter_items, into_iter_len}
use Rattle.at_jrag.specs.View.{decl_view}
use Rattle.at_start.specs.Spreading.{spread_as}
use Rattle.at_start.proofs.everywhere.spread_decls.Given as goal

-- what those are read as that are left is still to come
abbrev pub invariant-loop-decl : goal.invariant-loop-decl
invariant-loop-decl l =
    (map decl_view l.all.items ++ flat_map (spread_as l.classes l.own.attributes.items l.own.equations.items) (map decl_view (into_iter_items l.decl-iterator))
    ≡ flat_map (spread_as l.classes l.own.attributes.items l.own.equations.items) (map decl_view (into_iter_items l.initial.decl-iterator)))
    × (into_iter_len l.decl-iterator ≡ length (into_iter_items l.decl-iterator))
