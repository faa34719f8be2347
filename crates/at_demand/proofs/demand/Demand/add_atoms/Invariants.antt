use Rattle.std.proofs.Common.{take}
use Rattle.at_demand.specs.Groups.{AddsAtoms}
use Rattle.at_demand.proofs.demand.Demand.add_atoms.Given as goal

abbrev pub invariant-loop-piece : goal.invariant-loop-piece
invariant-loop-piece g l =
    AddsAtoms (g.K.Keeper.contents l.self.keeper) l.question (take l.piece-index l.pieces) l.initial.demanded l.demanded
