use Rattle.std.proofs.Common.{◌≡◌, take}
use Rattle.std.specs.Map.{keys_of}
use Rattle.at_search.specs.Systems.{IsUnderWay, StaysUnder}
use Rattle.at_search.proofs.system.System.add_formula.Given as goal

abbrev pub invariant-loop-piece : goal.invariant-loop-piece
invariant-loop-piece g l = record {
  under : IsUnderWay (g.K.Known.value_of l.known) (keys_of l.seen.entries) l.self.conditions (take l.piece-index l.pieces);
  stays : StaysUnder l.fn.self.conditions l.self.conditions;
  heads : l.self.heads ≡ l.fn.self.heads;
  edges : l.self.edges ≡ l.fn.self.edges;
  open' : l.self.open ≡ l.fn.self.open;
}
