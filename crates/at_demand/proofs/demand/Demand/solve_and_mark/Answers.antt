use Rattle.std.specs.Map.{keys_of}
use Rattle.at_demand.proofs.of_groups.MarkedSolved.{marked_solved, solving_broke}
use Rattle.at_demand.proofs.demand.Demand.solve_and_mark.Goals as goal

pub returns : goal.returns
returns g c =
    let a = c.args.self.now in
    let b = c.solve.new.self in
    marked_solved c.args.rules.now c.args.store.now (g.K.Keeper.contents a.keeper)
    (g.K.Keeper.contents b.keeper) (g.K.Keeper.memories a.keeper)
    (g.K.Keeper.memories b.keeper) a.work b.work c.args.question.now c.solve.new.question c.mark_whole.new.self
    (keys_of c.args.seen.now.entries) c.mark_whole.ensures
    c.solve.result c.in_ok-solve.field-0 c.in_ok-solve.was c.solve.ensures

pub returns-in_err-solve : goal.returns-in_err-solve
returns-in_err-solve g c =
    let a = c.args.self.now in
    let b = c.solve.new.self in
    solving_broke c.args.rules.now c.args.store.now (g.K.Keeper.contents a.keeper)
    (g.K.Keeper.contents b.keeper) (g.K.Keeper.memories a.keeper)
    (g.K.Keeper.memories b.keeper) a.work b.work c.args.question.now c.solve.new.question
    (keys_of c.args.seen.now.entries) c.solve.result c.in_err-solve.field-0.0
    c.from_residual.result _ c.in_err-solve.was c.from_residual.ensures.1 c.solve.ensures
