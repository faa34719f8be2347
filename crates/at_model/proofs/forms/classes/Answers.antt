use Rattle.std.proofs.Common.{refl}
use Rattle.at_model.specs.Classes.{chain}
use Rattle.at_model.proofs.forms.classes.Goals as goal

pub returns-clause-cast : goal.returns-clause-cast
unfolding chain
returns-clause-cast c = refl

pub returns-clause-wrong : goal.returns-clause-wrong
unfolding chain
returns-clause-wrong c = refl

pub returns-clause-above : goal.returns-clause-above
unfolding chain
returns-clause-above c = refl

pub returns-clause-instance : goal.returns-clause-instance
unfolding chain
returns-clause-instance c = refl

pub returns-clause-nothing_read : goal.returns-clause-nothing_read
unfolding chain
returns-clause-nothing_read c = refl

pub returns-clause-differ : goal.returns-clause-differ
unfolding chain
returns-clause-differ c = refl

pub returns-clause-at_most : goal.returns-clause-at_most
unfolding chain
returns-clause-at_most c = refl
