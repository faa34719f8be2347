use Rattle.std.proofs.lemmas.Result.{err_from_is_err_and}
use Rattle.at_demand.proofs.of_levels.LeftLevel.{between_solvable, leave_failed, leaves_failed, leaves_fallen, leaves_told, leaves_unseen}
use Rattle.at_demand.proofs.demand.Demand.leave.Goals as goal

pub solve_level-requires : goal.solve_level-requires
solve_level-requires g c =
    let can = c.requires in
    let along = can.along in
    between_solvable c.args.rules.now c.args.store.now (g.K.Keeper.contents c.args.self.now.keeper) c.args.question.now along.search

pub returns-in_err-solve_level : goal.returns-in_err-solve_level
returns-in_err-solve_level g c =
    let can = c.requires in
    let along = can.along in
    leave_failed c.args.rules.now c.args.store.now (g.K.Keeper.contents c.args.self.now.keeper)
    (g.K.Keeper.contents c.solve_level.new.self.keeper) (g.K.Keeper.memories c.args.self.now.keeper) (g.K.Keeper.memories c.solve_level.new.self.keeper)
    c.args.self.now.work c.solve_level.new.self.work c.args.question.now c.solve_level.new.question along.search c.solve_level.result c.solve_level.ensures
    c.args.trials.now c.from_residual.result _ ((err_from_is_err_and c.from_residual.result c.from_residual.ensures.1).1)

pub returns-in_ok-rise-in-None : goal.returns-in_ok-rise-in-None
returns-in_ok-rise-in-None g c =
    leaves_told c.args.rules.now c.args.store.now (g.K.Keeper.contents c.args.self.now.keeper)
    (g.K.Keeper.contents c.solve_level.new.self.keeper) (g.K.Keeper.memories c.args.self.now.keeper) (g.K.Keeper.memories c.solve_level.new.self.keeper)
    c.args.self.now.work c.solve_level.new.self.work c.args.question.now c.solve_level.new.question c.args.trials.now c.requires
    c.in_ok-solve_level.field-0 c.in_ok-solve_level.ensures c.take_fault.new.self c.take_fault.ensures.lost c.take_fault.result c.take_fault.ensures.fault
    (g.K.Keeper.contents c.rise.new.self.keeper) (g.K.Keeper.memories c.rise.new.self.keeper)
    c.rise.new.self.work c.rise.new.question c.rise.new.trials c.rise.ensures.found c.in-None.is c.in_ok-rise-in-None.field-0 c.in_ok-rise-in-None.ensures.risen

pub returns-in_err-rise-in-None : goal.returns-in_err-rise-in-None
returns-in_err-rise-in-None g c =
    leaves_failed c.args.rules.now c.args.store.now (g.K.Keeper.contents c.args.self.now.keeper)
    (g.K.Keeper.contents c.solve_level.new.self.keeper) (g.K.Keeper.memories c.args.self.now.keeper) (g.K.Keeper.memories c.solve_level.new.self.keeper)
    c.args.self.now.work c.solve_level.new.self.work c.args.question.now c.solve_level.new.question c.args.trials.now c.requires
    c.in_ok-solve_level.field-0 c.in_ok-solve_level.ensures c.take_fault.new.self c.take_fault.ensures.lost c.take_fault.result c.take_fault.ensures.fault
    (g.K.Keeper.contents c.rise.new.self.keeper) (g.K.Keeper.memories c.rise.new.self.keeper)
    c.rise.new.self.work c.rise.new.question c.rise.new.trials c.rise.ensures.found c.rise.result c.rise.ensures.risen c.from_residual-in_err-rise-in-None.result _
    ((err_from_is_err_and c.from_residual-in_err-rise-in-None.result c.from_residual-in_err-rise-in-None.ensures.1).1)

pub fall-requires : goal.fall-requires
fall-requires g c =
    leaves_unseen c.args.rules.now c.args.store.now (g.K.Keeper.contents c.args.self.now.keeper)
    (g.K.Keeper.contents c.solve_level.new.self.keeper) (g.K.Keeper.memories c.args.self.now.keeper) (g.K.Keeper.memories c.solve_level.new.self.keeper)
    c.args.self.now.work c.solve_level.new.self.work c.args.question.now c.solve_level.new.question c.args.trials.now c.requires
    c.in_ok-solve_level.field-0 c.in_ok-solve_level.ensures c.take_fault.new.self c.take_fault.ensures.lost c.take_fault.result c.take_fault.ensures.fault

pub returns-in-Some : goal.returns-in-Some
returns-in-Some g c =
    leaves_fallen c.args.rules.now c.args.store.now (g.K.Keeper.contents c.args.self.now.keeper)
    (g.K.Keeper.contents c.solve_level.new.self.keeper) (g.K.Keeper.memories c.args.self.now.keeper) (g.K.Keeper.memories c.solve_level.new.self.keeper)
    c.args.self.now.work c.solve_level.new.self.work c.args.question.now c.solve_level.new.question c.args.trials.now c.requires
    c.in_ok-solve_level.field-0 c.in_ok-solve_level.ensures c.take_fault.new.self c.take_fault.ensures.lost c.take_fault.result c.take_fault.ensures.fault
    c.in-Some.fault c.in-Some.is c.fall.new.question c.fall.new.trials c.fall.ensures.found c.fall.result c.fall.ensures.fallen
