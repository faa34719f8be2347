use Rattle.std.proofs.Common.{refl}
use Rattle.at_model.specs.Classes.{chain}
use Rattle.at_model.proofs.machine_cases.an_optional_is_emptied_and_filled.Goals as goal

pub returns-clause-emptied : goal.returns-clause-emptied
unfolding chain
returns-clause-emptied c = refl

pub returns-clause-filled : goal.returns-clause-filled
unfolding chain
returns-clause-filled c = refl

pub returns-clause-taken : goal.returns-clause-taken
unfolding chain
returns-clause-taken c = refl
