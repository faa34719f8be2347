use Rattle.std.proofs.Common.{refl}
use Rattle.at_model.specs.Classes.{chain}
use Rattle.at_kinds.proofs.form_cases.choices.Goals as goal

pub returns-clause-ints : goal.returns-clause-ints
unfolding chain
returns-clause-ints c = refl

pub returns-clause-below : goal.returns-clause-below
unfolding chain
returns-clause-below c = refl

pub returns-clause-above : goal.returns-clause-above
unfolding chain
returns-clause-above c = refl

pub returns-clause-null : goal.returns-clause-null
unfolding chain
returns-clause-null c = refl

pub returns-clause-none : goal.returns-clause-none
unfolding chain
returns-clause-none c = refl
