use Rattle.std.proofs.Common.{refl}
use Rattle.at_model.specs.Classes.{chain}
use Rattle.at_model.proofs.SampleCircles.{root_circle}
use Rattle.at_model.proofs.cases.first_come.Goals as goal

pub returns-clause-decided : goal.returns-clause-decided
unfolding chain
returns-clause-decided c = (9, refl)

pub returns-clause-fault : goal.returns-clause-fault
unfolding chain
returns-clause-fault c = (9, refl)

pub returns-clause-circle : goal.returns-clause-circle
returns-clause-circle c = root_circle
