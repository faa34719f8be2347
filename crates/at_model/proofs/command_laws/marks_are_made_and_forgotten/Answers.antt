use Rattle.at_model.proofs.of_machines.Commanded.{made_step, forgotten_step}
use Rattle.at_model.proofs.command_laws.marks_are_made_and_forgotten.Goals as goal

pub returns-clause-made : goal.returns-clause-made
returns-clause-made c = λ rules. made_step rules

pub returns-clause-forgotten : goal.returns-clause-forgotten
returns-clause-forgotten c = λ rules. forgotten_step rules
