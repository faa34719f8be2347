use Rattle.std.proofs.Common.{refl}
use Rattle.at_model.specs.Classes.{chain}
use Rattle.at_model.proofs.cases.dropped_declaration.Goals as goal

pub returns-clause-decl : goal.returns-clause-decl
unfolding chain
returns-clause-decl c = (9, refl)

pub returns-clause-own : goal.returns-clause-own
unfolding chain
returns-clause-own c = (9, refl)

pub returns-clause-inner : goal.returns-clause-inner
unfolding chain
returns-clause-inner c = (9, refl)
