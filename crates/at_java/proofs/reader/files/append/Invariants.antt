use Rattle.std.proofs.Common.{◌≡◌, ◌++◌, length}
use Rattle.std.specs.Vec.Iter.{into_iter_items, into_iter_len}
use Rattle.at_java.proofs.reader.files.append.Given as goal

-- those that are left are still to come
abbrev pub invariant-loop-constant : goal.invariant-loop-constant
invariant-loop-constant l =
    (l.all.items ++ into_iter_items l.constant-iterator ≡ l.initial.all.items ++ into_iter_items l.initial.constant-iterator)
    × (into_iter_len l.constant-iterator ≡ length (into_iter_items l.constant-iterator))
