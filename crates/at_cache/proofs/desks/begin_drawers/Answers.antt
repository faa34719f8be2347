use Rattle.at_cache.proofs.Drawers.{goes_past_index}
use Rattle.at_cache.proofs.desks.begin_drawers.Goals as goal

pub returns-in-All : goal.returns-in-All
returns-in-All g c = rw c.in-All.is c.begin_desks.ensures

pub returns-in-Index : goal.returns-in-Index
returns-in-Index g c = rw c.in-Index.is (goes_past_index c.args.all.now.entries c.args.node c.args.first c.args.cut.now)
