use Rattle.at_model.proofs.of_texts.OneLine.{same_line}
use Rattle.at_model.proofs.machine_laws.one_line.Goals as goal

pub returns : goal.returns
returns c = same_line
