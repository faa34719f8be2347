use Rattle.at_index.proofs.Common.{◌++◌, map, IfOk-weaker, loc_view, ListsBut, Stays, edges_over, edges_to, own_edges}
use Rattle.at_index.proofs.of_runs.Over.{noted_from, noted_to}
use Rattle.at_index.proofs.of_runs.Stretches.{adds_beside, but_beside, in_back, in_front, in_parts, lists_parts, reads_parts, reads_within, stays_added}
use Rattle.at_index.proofs.tells.Adding.add_further.Goals as goal

pub returns-in_err-add_own-clause-reads : goal.returns-in_err-add_own-clause-reads
returns-in_err-add_own-clause-reads g c =
    reads_within (rw c.split_at.ensures.front at c.add_own.ensures.reads) (in_front loc_view c.in_ok-width.width c.args.locations.now)

pub returns : goal.returns
returns g c =
    let xs = c.args.locations.now in
    let n = c.in_ok-width.width in
    let rs = c.add_own.new.readers in
    let own = own_edges rs.desks.entries rs.own.items in
    let nodes = c.add_own.new.index_read.items in
    let adds = rw c.split_at.ensures.back at c.add_along.ensures.adds in
    record {
      reads = reads_parts (in_front loc_view n xs) (in_back loc_view n xs)
          (rw c.split_at.ensures.front at c.add_own.ensures.reads)
          (adds_beside own adds);
      stay = IfOk-weaker c.add_along.result _ (λ left. Stays c.args.self.now.edge (edges_to c.args.readers.now)
          (λ l. own l ++ edges_over c.add_along.new.seats.items c.add_along.new.runs.items l))
          (λ left but l d. stays_added (g.T.Tells.tells c.args.self.now.teller.now) (adds_beside own c.add_along.ensures.adds) l (c.in_ok-add_own.ensures.stay l d))
          c.add_along.ensures.listed;
      listed = IfOk-weaker c.add_along.result _ (λ left. ListsBut _ (map loc_view xs) (map loc_view left.now)
          (λ l. own l ++ edges_over c.add_along.new.seats.items c.add_along.new.runs.items l))
          (λ left but. lists_parts (g.T.Tells.tells c.args.self.now.teller.now) _ (in_back loc_view n xs) (in_parts loc_view n xs)
          (rw c.split_at.ensures.front at c.in_ok-add_own.ensures.listed)
          (adds_beside own adds) (but_beside own (rw c.split_at.ensures.back at but)))
          c.add_along.ensures.listed;
      noted = λ h. noted_from rs.own.items c.add_along.new.seats.items c.add_along.new.runs.items nodes
          (noted_to rs.own.items rs.seats.items rs.runs.items nodes (c.add_own.ensures.noted h));
    }
