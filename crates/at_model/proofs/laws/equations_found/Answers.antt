use Rattle.at_model.proofs.WayUp.{own_found, inherited_found}
use Rattle.at_model.proofs.laws.equations_found.Goals as goal

pub returns-clause-own : goal.returns-clause-own
returns-clause-own c = own_found

pub returns-clause-inherited : goal.returns-clause-inherited
returns-clause-inherited c = inherited_found
