use Rattle.at_model.proofs.of_machines.Commanded.{posted_step}
use Rattle.at_model.proofs.command_laws.a_posted_question_is_open.Goals as goal

pub returns : goal.returns
returns c = posted_step
