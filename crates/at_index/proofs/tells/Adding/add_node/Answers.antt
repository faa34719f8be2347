use Rattle.at_index.proofs.Common.{◌∷◌, [], drawer_at}
use Rattle.at_index.proofs.DeskEdges.{node_comes, node_gains}
use Rattle.at_index.proofs.tells.Adding.add_node.Goals as goal

pub returns-in-Ok : goal.returns-in-Ok
returns-in-Ok g c =
    let old = c.args.all.now.entries in
    let new = c.insert.new.self.entries in
    let n = c.args.node in
    let d = c.add_to_desks.new.desks in
    let updates = c.in-Ok.ensures.updates in
    record {
      reads = node_comes old new n d updates.1 updates.2 (drawer_at n c.args.spot ∷ []) c.requires
          (rw c.new-desks.ensures at c.add_to_desks.ensures.reads n);
      has = node_gains old new n d updates.1 updates.2 _ c.args.spot (c.in_ok-add_to_desks.ensures.has n);
    }
