use Rattle.std.proofs.Common.{◌≡◌, ◌++◌, length, map}
use Rattle.std.specs.Vec.Iter.{into_iter_items, into_iter_len}
use Rattle.at_jrag.specs.View.{aspect_view}
use Rattle.at_start.specs.Overloading.{files_apart}
use Rattle.at_start.specs.Pairs.{overloaded_in}
use Rattle.at_start.proofs.overloaded.calls.Apart.files.Given as goal

-- those that are left are still to come
abbrev pub invariant-loop-aspects : goal.invariant-loop-aspects
invariant-loop-aspects l =
    (map (λ f. map aspect_view f.items) l.all.items
    ++ files_apart (overloaded_in l.self.pairs) (map (λ f. map aspect_view f.items) (into_iter_items l.aspects-iterator))
    ≡ files_apart (overloaded_in l.self.pairs) (map (λ f. map aspect_view f.items) (into_iter_items l.initial.aspects-iterator)))
    × (into_iter_len l.aspects-iterator ≡ length (into_iter_items l.aspects-iterator))
