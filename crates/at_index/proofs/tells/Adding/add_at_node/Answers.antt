use Rattle.at_index.proofs.Common.{◌∷◌, [], refl, subst, sym, on_ok_weaker, desk_edges, drawer_at, Reads}
use Rattle.std.specs.Prelude.{IsSome}
use Rattle.at_index.proofs.DeskEdges.{node_changed, node_gains}
use Rattle.at_index.proofs.tells.Adding.add_at_node.Goals as goal

pub returns-in-Some : goal.returns-in-Some
returns-in-Some g c =
    let n = c.args.node in
    let d = c.add_to_desks.new.desks in
    let old = c.args.all.now.entries in
    let new = (c.get_mut.follows.lender d).entries in
    let there = sym c.in-Some.ensures.value in
    let updates = (c.get_mut.follows.holds d).3 (subst IsSome (sym there) refl) in
    let added = c.add_to_desks.ensures in
    record {
      reads = node_changed old new n d updates.1 updates.2 (drawer_at n c.args.spot ∷ []) _ there (added.reads n);
      has = on_ok_weaker c.add_to_desks.result (node_gains old new n d updates.1 updates.2 _ c.args.spot) (added.has n);
    }

pub returns-in-None-clause-reads : goal.returns-in-None-clause-reads
returns-in-None-clause-reads g c =
    subst (λ m. Reads (g.T.Tells.tells c.args.self.now.teller.now) c.args.self.now.edge (drawer_at c.args.node c.args.spot ∷ []) (desk_edges m.entries) (desk_edges c.add_node.new.all.entries))
    c.get_mut.follows.holds-at-none c.add_node.ensures.reads
