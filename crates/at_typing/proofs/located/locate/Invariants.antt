use Rattle.std.proofs.Common.{◌≡◌, ◌+◌, ◌++◌, map, drop}
use Rattle.at_jrag.specs.View.{aspect_view}
use Rattle.at_typing.specs.Located.{located_view, located}
use Rattle.at_typing.proofs.located.locate.Given as goal

abbrev pub invariant-loop-i : goal.invariant-loop-i
invariant-loop-i l = map located_view l.all.items ++ located (l.i + 1) (map (λ f. map aspect_view f.items) (drop l.i l.files)) ≡ located 1 (map (λ f. map aspect_view f.items) l.files)
