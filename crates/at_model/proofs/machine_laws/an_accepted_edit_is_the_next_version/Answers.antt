use Rattle.at_model.proofs.of_edits.Changes.{accepted_edit}
use Rattle.at_model.proofs.machine_laws.an_accepted_edit_is_the_next_version.Goals as goal

pub returns : goal.returns
returns c = λ rules. accepted_edit rules
