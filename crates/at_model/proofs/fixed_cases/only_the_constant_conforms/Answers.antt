use Rattle.std.proofs.Common.{refl}
use Rattle.at_model.specs.Classes.{chain}
use Rattle.at_model.proofs.fixed_cases.only_the_constant_conforms.Goals as goal

pub returns-clause-whole : goal.returns-clause-whole
unfolding chain
returns-clause-whole c = refl

pub returns-clause-other : goal.returns-clause-other
unfolding chain
returns-clause-other c = refl
