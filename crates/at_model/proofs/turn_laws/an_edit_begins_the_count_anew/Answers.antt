use Rattle.at_model.proofs.of_machines.Machines.{counts_gone}
use Rattle.at_model.proofs.turn_laws.an_edit_begins_the_count_anew.Goals as goal

pub returns : goal.returns
returns c = λ s e t. counts_gone e s.posted
