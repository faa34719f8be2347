use Rattle.std.proofs.Common.{refl}
use Rattle.at_model.specs.Classes.{chain}
use Rattle.at_typing.specs.Declaring.{max_attributes, max_text}
use Rattle.at_typing.specs.Ruling.{max_parameters}
use Rattle.at_typing.proofs.aspect_cases.faults_of_several_declarations.Goals as goal

pub returns-clause-accessor : goal.returns-clause-accessor
unfolding chain max_attributes max_text max_parameters
returns-clause-accessor c = refl

pub returns-clause-twice : goal.returns-clause-twice
unfolding chain max_attributes max_text max_parameters
returns-clause-twice c = refl

pub returns-clause-of_none : goal.returns-clause-of_none
unfolding chain max_attributes max_text max_parameters
returns-clause-of_none c = refl

pub returns-clause-equation : goal.returns-clause-equation
unfolding chain max_attributes max_text max_parameters
returns-clause-equation c = refl
