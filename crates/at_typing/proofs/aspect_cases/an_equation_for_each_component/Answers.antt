use Rattle.std.proofs.Common.{refl}
use Rattle.at_model.specs.Classes.{chain}
use Rattle.at_typing.specs.Declaring.{max_attributes, max_text}
use Rattle.at_typing.specs.Ruling.{max_parameters}
use Rattle.at_typing.proofs.aspect_cases.an_equation_for_each_component.Goals as goal

pub returns : goal.returns
unfolding chain max_attributes max_text max_parameters
returns c = refl
