use Rattle.at_model.proofs.Complete.{has_own, has_source}
use Rattle.at_model.proofs.laws.each_has_an_equation.Goals as goal

pub returns-clause-own : goal.returns-clause-own
returns-clause-own c = has_own

pub returns-clause-inherited : goal.returns-clause-inherited
returns-clause-inherited c = has_source
