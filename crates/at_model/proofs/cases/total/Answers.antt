use Rattle.std.proofs.Common.{refl}
use Rattle.std.specs.Fmt.{digits}
use Rattle.at_model.specs.Classes.{chain}
use Rattle.at_model.proofs.cases.total.Goals as goal

pub returns-clause-tree : goal.returns-clause-tree
unfolding chain digits
returns-clause-tree c = refl

pub returns-clause-value : goal.returns-clause-value
unfolding chain
returns-clause-value c = (1, refl)
