use Rattle.std.proofs.Common.{refl}
use Rattle.at_model.specs.Classes.{chain}
use Rattle.at_typing.specs.Declaring.{max_attributes, max_text}
use Rattle.at_typing.specs.Ruling.{max_parameters}
use Rattle.at_typing.proofs.aspect_cases.faults_of_one_declaration.Goals as goal

pub returns-clause-name : goal.returns-clause-name
unfolding chain max_attributes max_text max_parameters
returns-clause-name c = refl

pub returns-clause-component : goal.returns-clause-component
unfolding chain max_attributes max_text max_parameters
returns-clause-component c = refl

pub returns-clause-parameter : goal.returns-clause-parameter
unfolding chain max_attributes max_text max_parameters
returns-clause-parameter c = refl

pub returns-clause-kind : goal.returns-clause-kind
unfolding chain max_attributes max_text max_parameters
returns-clause-kind c = refl

pub returns-clause-texts : goal.returns-clause-texts
unfolding chain max_attributes max_text max_parameters
returns-clause-texts c = refl
