use Rattle.std.proofs.Common.{refl}
use Rattle.at_model.specs.Classes.{chain}
use Rattle.at_kinds.proofs.form_cases.comparisons.Goals as goal

pub returns-clause-below : goal.returns-clause-below
unfolding chain
returns-clause-below c = refl

pub returns-clause-at_most : goal.returns-clause-at_most
unfolding chain
returns-clause-at_most c = refl

pub returns-clause-above : goal.returns-clause-above
unfolding chain
returns-clause-above c = refl

pub returns-clause-at_least : goal.returns-clause-at_least
unfolding chain
returns-clause-at_least c = refl
