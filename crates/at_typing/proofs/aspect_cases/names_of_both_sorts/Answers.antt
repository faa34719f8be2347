use Rattle.std.proofs.Common.{refl}
use Rattle.at_model.specs.Classes.{chain}
use Rattle.at_typing.specs.Declaring.{max_attributes, max_text}
use Rattle.at_typing.specs.Ruling.{max_parameters}
use Rattle.at_typing.proofs.aspect_cases.names_of_both_sorts.Goals as goal

pub returns-clause-apart : goal.returns-clause-apart
unfolding chain max_attributes max_text max_parameters
returns-clause-apart c = refl

pub returns-clause-line : goal.returns-clause-line
unfolding chain max_attributes max_text max_parameters
returns-clause-line c = refl

pub returns-clause-inherited : goal.returns-clause-inherited
unfolding chain max_attributes max_text max_parameters
returns-clause-inherited c = refl

pub returns-clause-given : goal.returns-clause-given
unfolding chain max_attributes max_text max_parameters
returns-clause-given c = refl
