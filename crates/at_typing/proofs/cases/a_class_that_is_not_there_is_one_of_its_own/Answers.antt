use Rattle.std.proofs.Common.{refl}
use Rattle.at_model.specs.Classes.{chain}
use Rattle.at_typing.specs.Declaring.{max_attributes, max_text}
use Rattle.at_typing.specs.Ruling.{max_parameters}
use Rattle.at_typing.proofs.cases.a_class_that_is_not_there_is_one_of_its_own.Goals as goal

pub returns-clause-itself : goal.returns-clause-itself
unfolding chain max_attributes max_text max_parameters
returns-clause-itself c = refl

pub returns-clause-another : goal.returns-clause-another
unfolding chain max_attributes max_text max_parameters
returns-clause-another c = refl

pub returns-clause-argument : goal.returns-clause-argument
unfolding chain max_attributes max_text max_parameters
returns-clause-argument c = refl
