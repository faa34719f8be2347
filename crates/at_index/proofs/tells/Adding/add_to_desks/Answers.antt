use Rattle.at_index.proofs.Common.{◌∷◌, [], subst, sym, on_ok_weaker, drawer_at, edges_in_desks, Reads}
use Rattle.at_index.proofs.DeskEdges.{kept_reads, set_has, set_reads}
use Rattle.at_index.proofs.tells.Adding.add_to_desks.Goals as goal

pub returns-in-Some : goal.returns-in-Some
returns-in-Some g c =
    let es = c.make_room.new.desks.spots.entries in
    let s = c.args.spot in
    let w = c.add_edge.new.edges in
    let there = sym c.in-Some.ensures.value in
    let so = (c.get_mut.follows.holds w).0 in
    record {
      reads = λ n. kept_reads (c.make_room.ensures n) (rw so (set_reads n s _ w es there c.add_edge.ensures.lists));
      has = λ n. on_ok_weaker c.add_edge.result (λ has. rw so (set_has n s _ w es there has)) c.add_edge.ensures.has;
    }

pub returns-in-None-clause-reads : goal.returns-in-None-clause-reads
returns-in-None-clause-reads g c n =
    let tells = g.T.Tells.tells c.args.self.now.teller.now in
    let new = c.add_desk.new.desks.spots.entries in
    kept_reads (c.make_room.ensures n)
    (subst (λ m. Reads tells c.args.self.now.edge (drawer_at n c.args.spot ∷ []) (edges_in_desks n m.entries) (edges_in_desks n new))
    c.get_mut.follows.holds-at-none (c.add_desk.ensures.reads tells n))
