use Rattle.at_cache.proofs.Naming.{goes_around, goes_around_none}
use Rattle.at_cache.proofs.places.begin_around.Goals as goal

pub returns-in-Some : goal.returns-in-Some
returns-in-Some g c = goes_around c.args.changing.now c.in-Some.changing c.in-Some.is c.begin_node-at.ensures c.begin_children.ensures

pub returns-in-None : goal.returns-in-None
returns-in-None g c = goes_around_none c.args.changing.now c.in-None.is c.args.first c.args.cut.now
