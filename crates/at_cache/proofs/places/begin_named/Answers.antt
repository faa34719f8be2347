use Rattle.at_cache.proofs.Common.{None}
use Rattle.at_cache.proofs.Naming.{goes_to_named, goes_unread}
use Rattle.at_cache.proofs.places.begin_named.Goals as goal

pub returns-then-is_unread : goal.returns-then-is_unread
returns-then-is_unread g c = goes_unread c.args.readers.now (c.is_unread.ensures c.if-is_unread.true) None c.args.cut.now

pub returns : goal.returns
returns g c = goes_to_named c.args.places.now c.begin_nodes-left.ensures c.begin_moved-moved.ensures c.begin_around-come.ensures c.begin_around-gone.ensures c.begin_keyed.ensures
