use Rattle.at_demand.proofs.of_steps.KeptAgain.{kept_nothing}
use Rattle.at_demand.proofs.demand.Demand.keep_again_in_turns.Goals as goal

pub returns-then-not-again-clause-kept : goal.returns-then-not-again-clause-kept
returns-then-not-again-clause-kept g c = kept_nothing (g.K.Keeper.memories c.args.self.now.keeper)
    (g.K.Keeper.contents c.args.self.now.keeper) c.args.self.now.work c.args.inst.now c.args.self.now.few
