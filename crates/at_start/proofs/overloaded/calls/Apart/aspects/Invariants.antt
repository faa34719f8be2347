use Rattle.std.proofs.Common.{◌≡◌, ◌++◌, length, map}
use Rattle.std.specs.Vec.Iter.{into_iter_items, into_iter_len}
use Rattle.at_jrag.specs.View.{aspect_view}
use Rattle.at_start.specs.Overloading.{aspect_apart}
use Rattle.at_start.specs.Pairs.{overloaded_in}
use Rattle.at_start.proofs.overloaded.calls.Apart.aspects.Given as goal

-- those that are left are still to come
abbrev pub invariant-loop-aspect : goal.invariant-loop-aspect
invariant-loop-aspect l =
    (map aspect_view l.all.items ++ map (aspect_apart (overloaded_in l.self.pairs)) (map aspect_view (into_iter_items
    l.aspect-iterator))
    ≡ map (aspect_apart (overloaded_in l.self.pairs)) (map aspect_view (into_iter_items l.initial.aspect-iterator)))
    × (into_iter_len l.aspect-iterator ≡ length (into_iter_items l.aspect-iterator))
