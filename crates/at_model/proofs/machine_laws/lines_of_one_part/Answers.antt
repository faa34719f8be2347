use Rattle.at_model.proofs.of_texts.Cutting.{lines_of_one}
use Rattle.at_model.proofs.machine_laws.lines_of_one_part.Goals as goal

pub returns : goal.returns
returns c = lines_of_one
