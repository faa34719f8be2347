use Rattle.at_cache.proofs.Drawers.{goes_over_desks, goes_past_desks}
use Rattle.at_cache.proofs.desks.begin_desks.Goals as goal

pub returns-in-Some : goal.returns-in-Some
returns-in-Some g c = goes_over_desks c.args.all.now.entries c.args.node c.in-Some.desks.now.spots.entries c.in-Some.ensures.some c.begin_among.ensures

pub returns-in-None : goal.returns-in-None
returns-in-None g c = goes_past_desks c.args.all.now.entries c.args.node c.in-None.ensures.none c.args.first c.args.cut.now
