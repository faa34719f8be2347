use Rattle.at_model.proofs.of_edits.Changes.{other_step}
use Rattle.at_model.proofs.machine_laws.only_edits_change_the_tree.Goals as goal

pub returns : goal.returns
returns c = λ rules. other_step rules
