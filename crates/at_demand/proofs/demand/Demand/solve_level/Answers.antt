use Rattle.std.specs.Map.{keys_of}
use Rattle.at_demand.proofs.of_levels.Resolving.{level_solvable, level_solved}
use Rattle.at_demand.proofs.demand.Demand.solve_level.Goals as goal

pub solve_and_mark-requires : goal.solve_and_mark-requires
solve_and_mark-requires g c =
    let seen = c.take_seen-seen in
    level_solvable c.args.rules.now c.args.store.now (g.K.Keeper.contents c.args.self.now.keeper) c.args.question.now seen.new.self (keys_of seen.result.entries)
    seen.ensures.seen seen.ensures.lost c.requires

pub returns : goal.returns
returns g c =
    let seen = c.take_seen-seen in
    let m = c.args.self.now in
    let n = c.solve_and_mark.new.self in
    level_solved c.args.rules.now c.args.store.now (g.K.Keeper.contents m.keeper) c.args.question.now seen.new.self (keys_of seen.result.entries)
    seen.ensures.seen seen.ensures.lost c.requires (g.K.Keeper.contents n.keeper) (g.K.Keeper.memories m.keeper)
    (g.K.Keeper.memories n.keeper) m.work n.work c.solve_and_mark.new.question c.solve_and_mark.result c.solve_and_mark.ensures
