use Rattle.at_model.proofs.of_seeking.DrawnFrom.{are_drawn}
use Rattle.at_model.proofs.seeking_laws.what_stands_in_a_drawer.Goals as goal

pub returns : goal.returns
returns c = are_drawn
