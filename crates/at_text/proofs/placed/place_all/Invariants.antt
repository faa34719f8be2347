use Rattle.std.proofs.Common.{◌≡◌, map, take}
use Rattle.std.specs.Str.{IsCharBoundary}
use Rattle.at_text.specs.Pieces.{spelled}
use Rattle.at_text.specs.Place.{place_of}
use Rattle.at_text.specs.Symbols.{placed, placed_in}
use Rattle.at_text.proofs.placed.place_all.Given as goal

abbrev pub invariant-loop-token : goal.invariant-loop-token
invariant-loop-token l = record {
  done : map placed l.all.items ≡ map (placed_in l.text) (map spelled (take l.token-index l.tokens));
  from : IsCharBoundary l.text l.from;
  at : l.at ≡ place_of l.text l.from;
}
