use Rattle.std.proofs.Common.{refl}
use Rattle.at_model.specs.Classes.{chain}
use Rattle.at_model.proofs.machine_cases.marks.Goals as goal

pub returns-clause-made : goal.returns-clause-made
unfolding chain
returns-clause-made c = refl

pub returns-clause-used : goal.returns-clause-used
unfolding chain
returns-clause-used c = refl

pub returns-clause-forgotten : goal.returns-clause-forgotten
unfolding chain
returns-clause-forgotten c = refl

pub returns-clause-unknown : goal.returns-clause-unknown
unfolding chain
returns-clause-unknown c = refl

pub returns-clause-taken : goal.returns-clause-taken
unfolding chain
returns-clause-taken c = refl

pub returns-clause-too_many : goal.returns-clause-too_many
unfolding chain
returns-clause-too_many c = refl
