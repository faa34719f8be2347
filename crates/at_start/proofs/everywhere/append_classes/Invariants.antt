use Rattle.std.proofs.Common.{◌≡◌, ◌++◌, drop, map}
use Rattle.at_jrag.specs.View.{decl_view}
use Rattle.at_start.specs.Spreading.{decls_from}
use Rattle.at_start.proofs.everywhere.append_classes.Given as goal

-- what is declared for the classes that are left is still to come
abbrev pub invariant-loop-class : goal.invariant-loop-class
invariant-loop-class l =
    map decl_view l.all.items ++ decls_from l.fn.classes l.fn.own.attributes.items l.fn.own.equations.items (decl_view l.fn.decl)
    l.class (drop l.class l.fn.classes)
    ≡ map decl_view l.initial.all.items ++ decls_from l.fn.classes l.fn.own.attributes.items l.fn.own.equations.items
    (decl_view l.fn.decl) 0 l.fn.classes
