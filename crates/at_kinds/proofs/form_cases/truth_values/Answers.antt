use Rattle.std.proofs.Common.{refl}
use Rattle.at_model.specs.Classes.{chain}
use Rattle.at_kinds.proofs.form_cases.truth_values.Goals as goal

pub returns-clause-not : goal.returns-clause-not
unfolding chain
returns-clause-not c = refl

pub returns-clause-and : goal.returns-clause-and
unfolding chain
returns-clause-and c = refl

pub returns-clause-or : goal.returns-clause-or
unfolding chain
returns-clause-or c = refl
