use Rattle.at_class.proofs.Descents.{no_way_yet}
use Rattle.at_class.proofs.way.Way.new.Goals as goal

pub returns : goal.returns
returns c = λ classes. no_way_yet classes _ _ c.new.ensures.items c.new-2.ensures
