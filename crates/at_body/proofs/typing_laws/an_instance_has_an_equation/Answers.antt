use Rattle.at_body.proofs.of_typing.TypedInstances.{own_there, above_there}
use Rattle.at_body.proofs.typing_laws.an_instance_has_an_equation.Goals as goal

pub returns-clause-own : goal.returns-clause-own
returns-clause-own c = own_there

pub returns-clause-above : goal.returns-clause-above
returns-clause-above c = above_there
