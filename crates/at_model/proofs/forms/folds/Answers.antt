use Rattle.std.proofs.Common.{refl}
use Rattle.at_model.specs.Classes.{chain}
use Rattle.at_model.proofs.forms.folds.Goals as goal

pub returns-clause-exists : goal.returns-clause-exists
unfolding chain
returns-clause-exists c = refl

pub returns-clause-none : goal.returns-clause-none
unfolding chain
returns-clause-none c = refl

pub returns-clause-first : goal.returns-clause-first
unfolding chain
returns-clause-first c = refl

pub returns-clause-not_one : goal.returns-clause-not_one
unfolding chain
returns-clause-not_one c = refl

pub returns-clause-sum : goal.returns-clause-sum
unfolding chain
returns-clause-sum c = refl

pub returns-clause-nothing : goal.returns-clause-nothing
unfolding chain
returns-clause-nothing c = refl

pub returns-clause-stops : goal.returns-clause-stops
unfolding chain
returns-clause-stops c = refl
