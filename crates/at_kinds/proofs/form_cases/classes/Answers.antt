use Rattle.std.proofs.Common.{refl}
use Rattle.at_model.specs.Classes.{chain}
use Rattle.at_kinds.proofs.form_cases.classes.Goals as goal

pub returns-clause-cast : goal.returns-clause-cast
unfolding chain
returns-clause-cast c = refl

pub returns-clause-test : goal.returns-clause-test
unfolding chain
returns-clause-test c = refl
