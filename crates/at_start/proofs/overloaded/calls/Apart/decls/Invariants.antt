use Rattle.std.proofs.Common.{◌≡◌, ◌++◌, length, map}
use Rattle.std.specs.Vec.Iter.{into_iter_items, into_iter_len}
use Rattle.at_jrag.specs.View.{decl_view}
use Rattle.at_start.specs.Overloading.{decl_apart}
use Rattle.at_start.specs.Pairs.{overloaded_in}
use Rattle.at_start.proofs.overloaded.calls.Apart.decls.Given as goal

-- those that are left are still to come
abbrev pub invariant-loop-decl : goal.invariant-loop-decl
invariant-loop-decl l =
    (map decl_view l.all.items ++ map (decl_apart (overloaded_in l.self.pairs)) (map decl_view (into_iter_items
    l.decl-iterator))
    ≡ map (decl_apart (overloaded_in l.self.pairs)) (map decl_view (into_iter_items l.initial.decl-iterator)))
    × (into_iter_len l.decl-iterator ≡ length (into_iter_items l.decl-iterator))
