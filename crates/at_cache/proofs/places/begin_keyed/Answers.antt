use Rattle.at_cache.proofs.Drawers.{goes_to_drawers, goes_to_no_drawers}
use Rattle.at_cache.proofs.places.begin_keyed.Goals as goal

pub returns-in-Some : goal.returns-in-Some
returns-in-Some g c = goes_to_drawers c.args.readers.now c.args.keyed c.in-Some.node c.in-Some.is c.begin_desks.ensures

pub returns-in-None : goal.returns-in-None
returns-in-None g c = goes_to_no_drawers c.args.readers.now c.args.keyed c.in-None.is c.args.first c.args.cut.now
