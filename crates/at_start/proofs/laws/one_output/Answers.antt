use Rattle.at_start.proofs.OneOutput.{one_output}
use Rattle.at_start.proofs.laws.one_output.Goals as goal

pub returns : goal.returns
returns c = one_output
