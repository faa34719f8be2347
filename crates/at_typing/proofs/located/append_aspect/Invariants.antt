use Rattle.std.proofs.Common.{◌≡◌, ◌++◌, map, drop}
use Rattle.at_jrag.specs.View.{decl_view}
use Rattle.at_typing.specs.Located.{located_view}
use Rattle.at_typing.proofs.located.append_aspect.Given as goal

abbrev pub invariant-loop-decl : goal.invariant-loop-decl
invariant-loop-decl l = map located_view l.all.items
    ++ map (λ d. record { file = l.file; decl = decl_view d }) (drop l.decl-index l.decl-items)
    ≡ map located_view l.initial.all.items ++ map (λ d. record { file = l.file; decl = decl_view d }) l.decl-items
