use Rattle.at_model.proofs.of_machines.Runs.{given_on, text_append}
use Rattle.at_model.proofs.machine_laws.more_turns.Goals as goal

pub returns-clause-turns : goal.returns-clause-turns
returns-clause-turns c = λ rules limit rest old mid new told more given goes. given_on rules limit rest old mid new told more given goes

pub returns-clause-text : goal.returns-clause-text
returns-clause-text c = text_append
