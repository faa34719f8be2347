use Rattle.std.proofs.Common.{◌≡◌, ◌++◌, map, drop}
use Rattle.at_jrag.specs.View.{aspect_view}
use Rattle.at_typing.specs.Located.{located_view, from_file}
use Rattle.at_typing.proofs.located.append_file.Given as goal

abbrev pub invariant-loop-aspect : goal.invariant-loop-aspect
invariant-loop-aspect l = map located_view l.all.items
    ++ from_file l.file (map aspect_view (drop l.aspect-index l.aspects)) ≡ map located_view l.initial.all.items
    ++ from_file l.file (map aspect_view l.aspects)
