use Rattle.at_model.proofs.EditRefused.{first_refused, none_refused}
use Rattle.at_model.proofs.refusal_laws.an_edit_is_refused_for_its_first_reason.Goals as goal

pub returns-clause-refused : goal.returns-clause-refused
returns-clause-refused c = first_refused

pub returns-clause-accepted : goal.returns-clause-accepted
returns-clause-accepted c = none_refused
