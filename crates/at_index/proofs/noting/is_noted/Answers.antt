use Rattle.at_index.proofs.Lists.{node_there}
use Rattle.at_index.proofs.Noted.{edge_there}
use Rattle.at_index.proofs.noting.is_noted.Goals as goal

pub returns-in-Some : goal.returns-in-Some
returns-in-Some c h =
    let at = c.in-Some.ensures.lookup in
    edge_there c.args.readers.now c.args.node c.in-Some.list.now (node_there c.args.readers.now c.index.result c.args.node c.in-Some.list.now c.index.ensures at.0 at.1) (rw c.as_slice.ensures at (c.is_index_read.ensures h c.args.node))
