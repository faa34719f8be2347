use Rattle.std.proofs.Common.{refl}
use Rattle.at_model.specs.Classes.{chain}
use Rattle.at_kinds.proofs.form_cases.arithmetic.Goals as goal

pub returns-clause-add : goal.returns-clause-add
unfolding chain
returns-clause-add c = refl

pub returns-clause-subtract : goal.returns-clause-subtract
unfolding chain
returns-clause-subtract c = refl

pub returns-clause-multiply : goal.returns-clause-multiply
unfolding chain
returns-clause-multiply c = refl

pub returns-clause-divide : goal.returns-clause-divide
unfolding chain
returns-clause-divide c = refl

pub returns-clause-remainder : goal.returns-clause-remainder
unfolding chain
returns-clause-remainder c = refl

pub returns-clause-negate : goal.returns-clause-negate
unfolding chain
returns-clause-negate c = refl
