use Rattle.std.proofs.Common.{refl}
use Rattle.at_model.specs.Classes.{chain}
use Rattle.at_kinds.proofs.form_cases.accessors.Goals as goal

pub returns-clause-child : goal.returns-clause-child
unfolding chain
returns-clause-child c = refl

pub returns-clause-optional : goal.returns-clause-optional
unfolding chain
returns-clause-optional c = refl

pub returns-clause-element : goal.returns-clause-element
unfolding chain
returns-clause-element c = refl

pub returns-clause-text : goal.returns-clause-text
unfolding chain
returns-clause-text c = refl

pub returns-clause-int : goal.returns-clause-int
unfolding chain
returns-clause-int c = refl

pub returns-clause-has : goal.returns-clause-has
unfolding chain
returns-clause-has c = refl

pub returns-clause-count : goal.returns-clause-count
unfolding chain
returns-clause-count c = refl

pub returns-clause-list : goal.returns-clause-list
unfolding chain
returns-clause-list c = refl

pub returns-clause-of_another : goal.returns-clause-of_another
unfolding chain
returns-clause-of_another c = refl
