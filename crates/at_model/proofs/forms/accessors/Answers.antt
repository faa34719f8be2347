use Rattle.std.proofs.Common.{refl}
use Rattle.at_model.specs.Classes.{chain}
use Rattle.at_model.proofs.forms.accessors.Goals as goal

pub returns-clause-count : goal.returns-clause-count
unfolding chain
returns-clause-count c = refl

pub returns-clause-element : goal.returns-clause-element
unfolding chain
returns-clause-element c = refl

pub returns-clause-beyond : goal.returns-clause-beyond
unfolding chain
returns-clause-beyond c = refl

pub returns-clause-negative : goal.returns-clause-negative
unfolding chain
returns-clause-negative c = refl

pub returns-clause-filled : goal.returns-clause-filled
unfolding chain
returns-clause-filled c = refl

pub returns-clause-has : goal.returns-clause-has
unfolding chain
returns-clause-has c = refl

pub returns-clause-absent : goal.returns-clause-absent
unfolding chain
returns-clause-absent c = refl

pub returns-clause-has_none : goal.returns-clause-has_none
unfolding chain
returns-clause-has_none c = refl

pub returns-clause-token : goal.returns-clause-token
unfolding chain
returns-clause-token c = refl

pub returns-clause-equal : goal.returns-clause-equal
unfolding chain
returns-clause-equal c = refl
