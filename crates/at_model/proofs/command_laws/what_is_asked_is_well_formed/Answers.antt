use Rattle.at_model.proofs.of_machines.WellAsked.{well_asked, well_there}
use Rattle.at_model.proofs.command_laws.what_is_asked_is_well_formed.Goals as goal

pub returns-clause-asked : goal.returns-clause-asked
returns-clause-asked c = well_asked

pub returns-clause-there : goal.returns-clause-there
returns-clause-there c = well_there
