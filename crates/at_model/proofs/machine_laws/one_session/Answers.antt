use Rattle.at_model.proofs.of_machines.OneOutput.{same_session}
use Rattle.at_model.proofs.machine_laws.one_session.Goals as goal

pub returns : goal.returns
returns c = same_session
