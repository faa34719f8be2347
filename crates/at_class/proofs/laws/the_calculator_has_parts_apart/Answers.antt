use Rattle.at_class.proofs.PartsTested.{calc_apart}
use Rattle.at_class.proofs.laws.the_calculator_has_parts_apart.Goals as goal

pub returns : goal.returns
returns c = calc_apart
