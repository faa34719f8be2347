use Rattle.std.proofs.Common.{inr, refl}
use Rattle.at_demand.proofs.Grouped.{member_formed}
use Rattle.at_demand.proofs.demand.Demand.add_member.Goals as goal

pub returns-in-Some : goal.returns-in-Some
returns-in-Some g c =
    let (i, at, r) = c.in-Some.ensures in
    member_formed (g.K.Keeper.contents c.args.self.now.keeper) c.args.question.now c.args.insts.now c.args.member.now i c.in-Some.formed.now
    c.args.find.now c.add.new.find c.add.result at r c.add.ensures

pub returns-in-None : goal.returns-in-None
returns-in-None g c = inr (c.in-None.ensures, refl)
