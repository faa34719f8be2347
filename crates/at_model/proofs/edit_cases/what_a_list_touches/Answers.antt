use Rattle.std.proofs.Common.{refl}
use Rattle.at_model.proofs.edit_cases.what_a_list_touches.Goals as goal

pub returns-clause-inserted : goal.returns-clause-inserted
returns-clause-inserted c = refl

pub returns-clause-beside : goal.returns-clause-beside
returns-clause-beside c = refl

pub returns-clause-dropped : goal.returns-clause-dropped
returns-clause-dropped c = refl

pub returns-clause-left : goal.returns-clause-left
returns-clause-left c = refl
