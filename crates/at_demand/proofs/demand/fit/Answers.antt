use Rattle.at_evaluate.proofs.of_traces.Justified.{stay_same}
use Rattle.at_demand.proofs.of_traces.Forgetting.{within}
use Rattle.at_demand.proofs.demand.fit.Goals as goal

pub returns-in-Some-clause-within : goal.returns-in-Some-clause-within
returns-in-Some-clause-within g c = λ off. c.fit.ensures.within (within c.args.most c.in-Some.most (g.K.Keeper.memories c.args.keeper.now).count c.in-Some.is off)

pub returns-in-None-clause-kept : goal.returns-in-None-clause-kept
returns-in-None-clause-kept g c = λ i k is. is

pub returns-in-None-clause-stay : goal.returns-in-None-clause-stay
returns-in-None-clause-stay g c = stay_same (g.K.Keeper.memories c.args.keeper.now)
