use Rattle.at_model.proofs.Tries.{try_right}
use Rattle.at_model.proofs.laws.try_is_right.Goals as goal

pub returns : goal.returns
returns c = try_right
