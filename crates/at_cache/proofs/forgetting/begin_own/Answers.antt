use Rattle.at_cache.proofs.Naming.{goes_at, goes_past}
use Rattle.at_cache.proofs.Common.{node_past, node_there}
use Rattle.at_cache.proofs.forgetting.begin_own.Goals as goal

pub returns-in-Some : goal.returns-in-Some
returns-in-Some g c =
    let at = c.in-Some.ensures.lookup in
    goes_at c.args.readers.now c.args.node c.args.scope c.in-Some.list.now (node_there c.args.readers.now c.index.result c.args.node c.in-Some.list.now c.index.ensures at.0 at.1) (rw c.as_slice.ensures at c.begin_at.ensures)

pub returns-in-None : goal.returns-in-None
returns-in-None g c = goes_past c.args.readers.now c.args.node c.args.scope (node_past c.args.readers.now c.index.result c.args.node c.index.ensures c.in-None.ensures.lookup.0) c.args.first _
