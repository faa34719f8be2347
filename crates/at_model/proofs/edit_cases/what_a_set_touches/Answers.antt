use Rattle.std.proofs.Common.{refl}
use Rattle.at_model.proofs.edit_cases.what_a_set_touches.Goals as goal

pub returns-clause-child : goal.returns-clause-child
returns-clause-child c = refl

pub returns-clause-beside : goal.returns-clause-beside
returns-clause-beside c = refl

pub returns-clause-element : goal.returns-clause-element
returns-clause-element c = refl

pub returns-clause-others : goal.returns-clause-others
returns-clause-others c = refl

pub returns-clause-root : goal.returns-clause-root
returns-clause-root c = refl
