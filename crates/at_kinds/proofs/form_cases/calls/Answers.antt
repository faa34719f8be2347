use Rattle.std.proofs.Common.{refl}
use Rattle.at_model.specs.Classes.{chain}
use Rattle.at_kinds.proofs.form_cases.calls.Goals as goal

pub returns-clause-own : goal.returns-clause-own
unfolding chain
returns-clause-own c = refl

pub returns-clause-of_another : goal.returns-clause-of_another
unfolding chain
returns-clause-of_another c = refl

pub returns-clause-none : goal.returns-clause-none
unfolding chain
returns-clause-none c = refl
