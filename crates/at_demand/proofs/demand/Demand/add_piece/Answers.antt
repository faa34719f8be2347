use Rattle.std.proofs.Common.{refl}
use Rattle.at_demand.proofs.Grouped.{one_used}
use Rattle.at_demand.proofs.demand.Demand.add_piece.Goals as goal

pub returns-in-Known : goal.returns-in-Known
returns-in-Known g c = rw c.in-Known.is refl

pub returns-in-Asks : goal.returns-in-Asks
returns-in-Asks g c =
    rw c.in-Asks.is (one_used (g.K.Keeper.contents c.args.self.now.keeper) c.args.question.now c.in-Asks.inst c.args.demanded.now
    c.add_use.new.demanded c.add_use.result c.add_use.ensures)

pub returns-in-Both : goal.returns-in-Both
returns-in-Both g c = rw c.in-Both.is refl

pub returns-in-Either : goal.returns-in-Either
returns-in-Either g c = rw c.in-Either.is refl
