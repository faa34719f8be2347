use Rattle.at_demand.proofs.of_steps.Noting.{noted_put}
use Rattle.at_demand.proofs.trials.note_in.Goals as goal

pub returns-clause-ok : goal.returns-clause-ok
returns-clause-ok c = noted_put c.args.noted.now.entries c.put_noted.new.noted.entries c.args.inst.now c.in_ok-at.at
    c.args.fault.now c.in_ok-copy.copy
    c.put_noted.result c.in_ok-at.ensures c.in_ok-copy.ensures c.put_noted.ensures.ok
