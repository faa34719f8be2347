use Rattle.std.proofs.Common.{◌≡◌, [], length, take}
use Rattle.at_body.specs.Pieces.{stacked}
use Rattle.at_body.proofs.formula.formulas_in.Given as goal

abbrev pub invariant-loop-piece : goal.invariant-loop-piece
invariant-loop-piece l = length (stacked [] (take l.piece-index l.pieces)) ≡ l.count
