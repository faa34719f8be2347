use Rattle.at_model.proofs.of_machines.Orderly.{told_waiting}
use Rattle.at_model.proofs.turn_laws.who_waits_is_told.Goals as goal

pub returns : goal.returns
returns c = told_waiting
