use Rattle.at_model.proofs.of_texts.Cutting.{lines-newline}
use Rattle.at_model.proofs.machine_laws.lines_of_two_parts.Goals as goal

pub returns : goal.returns
returns c = lines-newline
