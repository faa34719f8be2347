use Rattle.std.proofs.Common.{◌≡◌, take, map}
use Rattle.std.specs.Prelude.{All}
use Rattle.at_typing.specs.Located.{located_view}
use Rattle.at_typing.specs.Numbering.{numbered_view, HasNumbers}
use Rattle.at_typing.proofs.numbered.Words.all_numbered.Given as goal

abbrev pub invariant-loop-located : goal.invariant-loop-located
invariant-loop-located l =
    (map numbered_view l.items.items ≡ map located_view (take l.located-index l.all))
    × All (HasNumbers l.classes l.self.unknown.keys l.self.names.keys) l.items.items
