use Rattle.at_model.proofs.of_machines.Commanded.{accepted_of}
use Rattle.at_model.proofs.command_laws.an_accepted_edit_is_that_of_its_command.Goals as goal

pub returns : goal.returns
returns c = λ rules. accepted_of rules
