use Rattle.std.proofs.Common.{refl}
use Rattle.at_model.specs.Classes.{chain}
use Rattle.at_model.proofs.cases.same_nodes.Goals as goal

pub returns-clause-same : goal.returns-clause-same
unfolding chain
returns-clause-same c = (9, refl)

pub returns-clause-alike : goal.returns-clause-alike
unfolding chain
returns-clause-alike c = (9, refl)
