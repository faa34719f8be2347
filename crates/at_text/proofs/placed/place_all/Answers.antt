use Rattle.std.proofs.Common.{ap, sym, map}
use Rattle.std.proofs.lemmas.Str.{IsCharBoundary-start, chars-nil}
use Rattle.at_text.specs.Place.{place_after}
use Rattle.at_text.specs.Symbols.{placed}
use Rattle.at_text.proofs.placed.place_all.Goals as goal

pub loop-token-init : goal.loop-token-init
loop-token-init c = record {
  done = ap (map placed) c.new-all.ensures.items;
  from = IsCharBoundary-start c.args.text.now c.utf8.text;
  at = sym (ap place_after chars-nil);
}
