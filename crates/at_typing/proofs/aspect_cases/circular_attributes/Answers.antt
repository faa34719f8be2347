use Rattle.std.proofs.Common.{refl}
use Rattle.at_model.specs.Classes.{chain}
use Rattle.at_typing.specs.Declaring.{max_attributes, max_text}
use Rattle.at_typing.specs.Ruling.{max_parameters}
use Rattle.at_typing.proofs.aspect_cases.circular_attributes.Goals as goal

pub returns-clause-rules : goal.returns-clause-rules
unfolding chain max_attributes max_text max_parameters
returns-clause-rules c = refl

pub returns-clause-agree : goal.returns-clause-agree
unfolding chain max_attributes max_text max_parameters
returns-clause-agree c = refl

pub returns-clause-differ : goal.returns-clause-differ
unfolding chain max_attributes max_text max_parameters
returns-clause-differ c = refl

pub returns-clause-one : goal.returns-clause-one
unfolding chain max_attributes max_text max_parameters
returns-clause-one c = refl
