use Rattle.std.proofs.Common.{refl}
use Rattle.at_model.specs.Classes.{chain}
use Rattle.at_model.proofs.cases.nearest_class.Goals as goal

pub returns-clause-every : goal.returns-clause-every
unfolding chain
returns-clause-every c = refl

pub returns-clause-one : goal.returns-clause-one
unfolding chain
returns-clause-one c = refl

pub returns-clause-other : goal.returns-clause-other
unfolding chain
returns-clause-other c = refl

pub returns-clause-above : goal.returns-clause-above
unfolding chain
returns-clause-above c = refl

pub returns-clause-none : goal.returns-clause-none
unfolding chain
returns-clause-none c = refl
