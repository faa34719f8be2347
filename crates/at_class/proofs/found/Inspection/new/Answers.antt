use Rattle.at_class.proofs.Descents.{knows_nothing}
use Rattle.at_class.proofs.found.Inspection.new.Goals as goal

pub returns : goal.returns
returns c = λ classes. knows_nothing classes c.new.result c.in_ok-found.found.items c.args.count (c.new.ensures classes) c.in_ok-found.ensures
