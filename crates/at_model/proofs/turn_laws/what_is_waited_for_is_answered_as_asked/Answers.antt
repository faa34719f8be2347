use Rattle.at_model.proofs.of_machines.Machines.{waited}
use Rattle.at_model.proofs.turn_laws.what_is_waited_for_is_answered_as_asked.Goals as goal

pub returns : goal.returns
returns c = λ rules number old new said answered. waited rules number old new said answered
