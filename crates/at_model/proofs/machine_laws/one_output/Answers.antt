use Rattle.at_model.proofs.of_machines.OneOutput.{outputs_once}
use Rattle.at_model.proofs.machine_laws.one_output.Goals as goal

pub returns : goal.returns
returns c = λ rules. outputs_once rules
