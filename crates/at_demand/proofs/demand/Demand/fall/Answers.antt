use Rattle.at_demand.proofs.of_levels.ClosedLevels.{risen_unseen}
use Rattle.at_demand.proofs.demand.Demand.fall.Goals as goal

pub end-requires : goal.end-requires
end-requires g c =
    risen_unseen c.args.question.now c.rise.new.self c.rise.result c.is_none.result c.requires c.rise.ensures c.is_none.ensures c.if-is_none.false
