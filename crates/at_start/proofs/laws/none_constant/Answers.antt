use Rattle.at_start.proofs.PlantingFaults.{none_planted}
use Rattle.at_start.proofs.laws.none_constant.Goals as goal

pub returns : goal.returns
returns c = none_planted
