use Rattle.at_demand.proofs.of_steps.Noting.{noted_one}
use Rattle.at_demand.proofs.trials.Trials.noted_of.Goals as goal

pub returns-in-Some : goal.returns-in-Some
returns-in-Some c = noted_one c.args.self.now.noted.entries c.args.inst.now c.in-Some.fault.now
    c.in-Some.ensures.value c.copied.result c.copied.ensures
