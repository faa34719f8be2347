use Rattle.at_model.proofs.of_machines.Machines.{words_judged}
use Rattle.at_model.proofs.turn_laws.words_are_judged_by_the_tree.Goals as goal

pub returns : goal.returns
returns c = words_judged
