use Rattle.std.proofs.Common.{List, refl, subst}
use Rattle.std.proofs.lemmas.List.{take_all}
use Rattle.at_body.specs.declared.formula.Piece.{Piece}
use Rattle.at_demand.specs.Groups.{AddsAtoms}
use Rattle.at_demand.proofs.Grouped.{atoms_more}
use Rattle.at_demand.proofs.demand.Demand.add_atoms.Goals as goal

pub loop-piece-init : goal.loop-piece-init
loop-piece-init g c = refl

pub loop-piece-preserved : goal.loop-piece-preserved
loop-piece-preserved g c =
    atoms_more (g.K.Keeper.contents c.args.self.now.keeper) c.args.question.now c.args.pieces.now c.loop-piece.piece-index c.piece-item.result
    c.args.demanded.now c.loop-piece.demanded c.add_piece.new.demanded c.loop-piece-test.true c.piece-item.is c.loop-piece.invariant
    c.in_ok-add_piece.ensures

pub returns : goal.returns
returns g c =
    subst (λ (ps : List Piece). AddsAtoms (g.K.Keeper.contents c.args.self.now.keeper) c.args.question.now ps c.args.demanded.now
    c.loop-piece.demanded) (take_all c.loop-piece.piece-index c.args.pieces.now c.loop-piece-test.false) c.loop-piece.invariant
