use Rattle.std.proofs.Common.{◌≡◌, ◌++◌, length, map}
use Rattle.std.specs.Vec.Iter.{into_iter_items, into_iter_len}
use Rattle.at_jrag.specs.View.{aspect_view}
use Rattle.at_start.specs.Spreading.{files_spread}
use Rattle.at_start.proofs.everywhere.spread_files.Given as goal

-- those that are left are still to come
abbrev pub invariant-loop-aspects : goal.invariant-loop-aspects
invariant-loop-aspects l =
    (map (λ f. map aspect_view f.items) l.all.items
    ++ files_spread l.classes l.own.attributes.items l.own.equations.items (map (λ f. map aspect_view f.items) (into_iter_items l.aspects-iterator))
    ≡ files_spread l.classes l.own.attributes.items l.own.equations.items (map (λ f. map aspect_view f.items) (into_iter_items l.initial.aspects-iterator)))
    × (into_iter_len l.aspects-iterator ≡ length (into_iter_items l.aspects-iterator))
