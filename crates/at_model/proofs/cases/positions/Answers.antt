use Rattle.std.proofs.Common.{refl}
use Rattle.at_model.specs.Classes.{chain}
use Rattle.at_model.proofs.cases.positions.Goals as goal

pub returns-clause-statement : goal.returns-clause-statement
unfolding chain
returns-clause-statement c = (9, refl)

pub returns-clause-block : goal.returns-clause-block
unfolding chain
returns-clause-block c = (9, refl)
