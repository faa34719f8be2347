use Rattle.std.proofs.Common.{refl}
use Rattle.at_model.specs.Classes.{chain}
use Rattle.at_model.proofs.forms.order.Goals as goal

pub returns-clause-decided : goal.returns-clause-decided
unfolding chain
returns-clause-decided c = refl

pub returns-clause-chosen : goal.returns-clause-chosen
unfolding chain
returns-clause-chosen c = refl

pub returns-clause-argument : goal.returns-clause-argument
unfolding chain
returns-clause-argument c = refl

pub returns-clause-receiver : goal.returns-clause-receiver
unfolding chain
returns-clause-receiver c = refl

pub returns-clause-index : goal.returns-clause-index
unfolding chain
returns-clause-index c = refl

pub returns-clause-null : goal.returns-clause-null
unfolding chain
returns-clause-null c = refl

pub returns-clause-left : goal.returns-clause-left
unfolding chain
returns-clause-left c = refl
