use Rattle.std.proofs.Common.{◌≡◌, ◌++◌, drop, filter_map, map}
use Rattle.at_jrag.specs.View.{decl_view}
use Rattle.at_start.specs.Overloading.{counted_of}
use Rattle.at_start.proofs.overloaded.pairs.append_decls.Given as goal

-- those of the declarations that are left are still to come
abbrev pub invariant-loop-decl : goal.invariant-loop-decl
invariant-loop-decl l = l.all.items ++ filter_map counted_of (map decl_view (drop l.decl-index
    l.decls))
    ≡ l.initial.all.items ++ filter_map counted_of (map decl_view l.decls)
