use Rattle.std.proofs.Common.{refl}
use Rattle.at_model.specs.Classes.{chain}
use Rattle.at_model.proofs.machine_cases.questions.Goals as goal

pub returns-clause-argument : goal.returns-clause-argument
unfolding chain
returns-clause-argument c = refl

pub returns-clause-attribute : goal.returns-clause-attribute
unfolding chain
returns-clause-attribute c = refl

pub returns-clause-arguments : goal.returns-clause-arguments
unfolding chain
returns-clause-arguments c = refl

pub returns-clause-kind : goal.returns-clause-kind
unfolding chain
returns-clause-kind c = refl

pub returns-clause-asked : goal.returns-clause-asked
unfolding chain
returns-clause-asked c = refl
