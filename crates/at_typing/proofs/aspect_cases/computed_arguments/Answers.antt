use Rattle.std.proofs.Common.{refl}
use Rattle.at_model.specs.Classes.{chain}
use Rattle.at_typing.specs.Declaring.{max_attributes, max_text}
use Rattle.at_typing.specs.Ruling.{max_parameters}
use Rattle.at_typing.proofs.aspect_cases.computed_arguments.Goals as goal

pub returns-clause-four : goal.returns-clause-four
unfolding chain max_attributes max_text max_parameters
returns-clause-four c = refl

pub returns-clause-five : goal.returns-clause-five
unfolding chain max_attributes max_text max_parameters
returns-clause-five c = refl

pub returns-clause-three : goal.returns-clause-three
unfolding chain max_attributes max_text max_parameters
returns-clause-three c = refl

pub returns-clause-numbers : goal.returns-clause-numbers
unfolding chain max_attributes max_text max_parameters
returns-clause-numbers c = refl

pub returns-clause-joined : goal.returns-clause-joined
unfolding chain max_attributes max_text max_parameters
returns-clause-joined c = refl

pub returns-clause-passed : goal.returns-clause-passed
unfolding chain max_attributes max_text max_parameters
returns-clause-passed c = refl
