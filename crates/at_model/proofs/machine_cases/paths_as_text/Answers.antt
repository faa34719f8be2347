use Rattle.std.proofs.Common.{refl}
use Rattle.std.specs.Fmt.{digits}
use Rattle.at_model.specs.Classes.{chain}
use Rattle.at_model.proofs.machine_cases.paths_as_text.Goals as goal

pub returns-clause-path : goal.returns-clause-path
unfolding chain digits
returns-clause-path c = refl

pub returns-clause-node : goal.returns-clause-node
unfolding chain digits
returns-clause-node c = refl

pub returns-clause-back : goal.returns-clause-back
unfolding chain digits
returns-clause-back c = refl
