use Rattle.std.proofs.Common.{refl}
use Rattle.at_model.specs.Classes.{chain}
use Rattle.std.specs.Fmt.{digits}
use Rattle.at_model.proofs.cases.ints.Goals as goal

pub returns-clause-big : goal.returns-clause-big
unfolding chain
returns-clause-big c = (9, refl)

pub returns-clause-join : goal.returns-clause-join
unfolding chain digits
returns-clause-join c = (9, refl)
