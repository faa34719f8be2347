use Rattle.std.proofs.Common.{refl}
use Rattle.std.specs.Fmt.{digits}
use Rattle.at_model.specs.Classes.{chain}
use Rattle.at_model.proofs.form_cases.comparisons.Goals as goal

pub returns-clause-below_itself : goal.returns-clause-below_itself
unfolding chain digits
returns-clause-below_itself c = refl

pub returns-clause-below : goal.returns-clause-below
unfolding chain digits
returns-clause-below c = refl

pub returns-clause-at_most_itself : goal.returns-clause-at_most_itself
unfolding chain digits
returns-clause-at_most_itself c = refl

pub returns-clause-at_most : goal.returns-clause-at_most
unfolding chain digits
returns-clause-at_most c = refl

pub returns-clause-above_itself : goal.returns-clause-above_itself
unfolding chain digits
returns-clause-above_itself c = refl

pub returns-clause-above : goal.returns-clause-above
unfolding chain digits
returns-clause-above c = refl

pub returns-clause-at_least_itself : goal.returns-clause-at_least_itself
unfolding chain digits
returns-clause-at_least_itself c = refl

pub returns-clause-at_least : goal.returns-clause-at_least
unfolding chain digits
returns-clause-at_least c = refl
