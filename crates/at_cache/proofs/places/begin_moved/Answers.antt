use Rattle.at_cache.proofs.Naming.{goes_to_node, goes_to_none}
use Rattle.at_cache.proofs.places.begin_moved.Goals as goal

pub returns-in-Some : goal.returns-in-Some
returns-in-Some g c = goes_to_node c.args.moved c.in-Some.node c.in-Some.is c.begin_node.ensures

pub returns-in-None : goal.returns-in-None
returns-in-None g c = goes_to_none c.args.moved c.in-None.is c.args.first c.args.cut.now
