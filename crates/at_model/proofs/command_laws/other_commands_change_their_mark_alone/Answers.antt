use Rattle.at_model.proofs.of_machines.Commanded.{spared_step, same_step}
use Rattle.at_model.proofs.command_laws.other_commands_change_their_mark_alone.Goals as goal

pub returns-clause-marks : goal.returns-clause-marks
returns-clause-marks c = λ rules. spared_step rules

pub returns-clause-nothing : goal.returns-clause-nothing
returns-clause-nothing c = λ rules. same_step rules
