use Rattle.std.proofs.Common.{refl}
use Rattle.at_model.specs.Classes.{chain}
use Rattle.at_model.proofs.refusal_cases.marks_beside_others.Goals as goal

pub returns-clause-forgotten : goal.returns-clause-forgotten
unfolding chain
returns-clause-forgotten c = refl

pub returns-clause-kept : goal.returns-clause-kept
unfolding chain
returns-clause-kept c = refl

pub returns-clause-index : goal.returns-clause-index
unfolding chain
returns-clause-index c = refl
