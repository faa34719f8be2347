use Rattle.std.proofs.Common.{refl}
use Rattle.at_model.specs.Classes.{chain}
use Rattle.at_model.proofs.fixed_cases.constants_are_not_edited.Goals as goal

pub returns-clause-set : goal.returns-clause-set
unfolding chain
returns-clause-set c = refl

pub returns-clause-below : goal.returns-clause-below
unfolding chain
returns-clause-below c = refl

pub returns-clause-inner : goal.returns-clause-inner
unfolding chain
returns-clause-inner c = refl

pub returns-clause-drop : goal.returns-clause-drop
unfolding chain
returns-clause-drop c = refl

pub returns-clause-token : goal.returns-clause-token
unfolding chain
returns-clause-token c = refl

pub returns-clause-beside : goal.returns-clause-beside
unfolding chain
returns-clause-beside c = refl
