use Rattle.std.proofs.Common.{◌≡◌, [], length, ap, sym, ◌∙◌}
use Rattle.std.proofs.lemmas.List.{take_all}
use Rattle.at_body.specs.Pieces.{stacked}
use Rattle.at_body.proofs.Counted.{one_counted}
use Rattle.at_body.proofs.formula.formulas_in.Goals as goal

pub loop-piece-preserved : goal.loop-piece-preserved
loop-piece-preserved c =
    one_counted c.args.pieces.now c.loop-piece.piece-index c.loop-piece.count c.in_ok-count.count c.piece-item.result
    c.loop-piece-test.true c.piece-item.is c.loop-piece.invariant c.in_ok-count.ensures

pub returns : goal.returns
returns c =
    ap (λ ps. length (stacked [] ps)) (sym (take_all c.loop-piece.piece-index c.args.pieces.now c.loop-piece-test.false)) ∙ c.loop-piece.invariant
