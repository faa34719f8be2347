use Rattle.at_model.proofs.of_machines.Runs.{one_more, runs_on}
use Rattle.at_model.proofs.machine_laws.one_more_line.Goals as goal

pub returns-clause-line : goal.returns-clause-line
returns-clause-line c = λ rules slice old mid after new ls told more line said runs serves given. one_more rules slice old mid after new ls told line said more runs serves given

pub returns-clause-lines : goal.returns-clause-lines
returns-clause-lines c = λ rules slice old mid new ls rest told more runs goes. runs_on rules slice old mid new ls rest told more runs goes
