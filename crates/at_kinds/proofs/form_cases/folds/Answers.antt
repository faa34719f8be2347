use Rattle.std.proofs.Common.{refl}
use Rattle.at_model.specs.Classes.{chain}
use Rattle.at_kinds.proofs.form_cases.folds.Goals as goal

pub returns-clause-exists : goal.returns-clause-exists
unfolding chain
returns-clause-exists c = refl

pub returns-clause-first : goal.returns-clause-first
unfolding chain
returns-clause-first c = refl

pub returns-clause-sum : goal.returns-clause-sum
unfolding chain
returns-clause-sum c = refl

pub returns-clause-of_another : goal.returns-clause-of_another
unfolding chain
returns-clause-of_another c = refl
