use Rattle.std.proofs.Common.{refl}
use Rattle.at_model.specs.Classes.{chain}
use Rattle.at_model.proofs.cases.nearest_above.Goals as goal

pub returns-clause-node : goal.returns-clause-node
unfolding chain
returns-clause-node c = refl

pub returns-clause-step : goal.returns-clause-step
unfolding chain
returns-clause-step c = refl
