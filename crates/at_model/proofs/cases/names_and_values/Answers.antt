use Rattle.std.proofs.Common.{refl}
use Rattle.at_model.specs.Classes.{chain}
use Rattle.at_model.proofs.cases.names_and_values.Goals as goal

pub returns-clause-value : goal.returns-clause-value
unfolding chain
returns-clause-value c = (9, refl)

pub returns-clause-decl : goal.returns-clause-decl
unfolding chain
returns-clause-decl c = (9, refl)

pub returns-clause-undeclared : goal.returns-clause-undeclared
unfolding chain
returns-clause-undeclared c = (9, refl)
