use Rattle.std.proofs.Common.{refl}
use Rattle.at_model.specs.Classes.{chain}
use Rattle.at_model.proofs.cases.what_is_read.Goals as goal

pub returns-clause-sum : goal.returns-clause-sum
unfolding chain
returns-clause-sum c = refl

pub returns-clause-way_up : goal.returns-clause-way_up
unfolding chain
returns-clause-way_up c = refl

pub returns-clause-fold : goal.returns-clause-fold
unfolding chain
returns-clause-fold c = refl

pub returns-clause-cast : goal.returns-clause-cast
unfolding chain
returns-clause-cast c = refl

pub returns-clause-index : goal.returns-clause-index
unfolding chain
returns-clause-index c = refl

pub returns-clause-token : goal.returns-clause-token
unfolding chain
returns-clause-token c = refl
