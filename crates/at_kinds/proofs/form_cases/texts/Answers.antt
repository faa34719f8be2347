use Rattle.std.proofs.Common.{refl}
use Rattle.at_model.specs.Classes.{chain}
use Rattle.at_kinds.proofs.form_cases.texts.Goals as goal

pub returns-clause-join : goal.returns-clause-join
unfolding chain
returns-clause-join c = refl

pub returns-clause-join_int : goal.returns-clause-join_int
unfolding chain
returns-clause-join_int c = refl

pub returns-clause-equals : goal.returns-clause-equals
unfolding chain
returns-clause-equals c = refl

pub returns-clause-same : goal.returns-clause-same
unfolding chain
returns-clause-same c = refl
