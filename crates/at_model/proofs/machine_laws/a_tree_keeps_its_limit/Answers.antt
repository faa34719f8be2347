use Rattle.at_model.proofs.of_machines.LimitKept.{limit_kept, never_more}
use Rattle.at_model.proofs.machine_laws.a_tree_keeps_its_limit.Goals as goal

pub returns-clause-limit : goal.returns-clause-limit
returns-clause-limit c = limit_kept

pub returns-clause-never_more : goal.returns-clause-never_more
returns-clause-never_more c = never_more
