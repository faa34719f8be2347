use Rattle.std.proofs.Common.{refl}
use Rattle.at_model.specs.Classes.{chain}
use Rattle.at_kinds.proofs.form_cases.bodies.Goals as goal

pub returns-clause-within : goal.returns-clause-within
unfolding chain
returns-clause-within c = refl

pub returns-clause-other : goal.returns-clause-other
unfolding chain
returns-clause-other c = refl
