use Rattle.at_index.proofs.Common.{map, on_ok_weaker, loc_view, own_edges, edges_over}
use Rattle.at_index.proofs.of_runs.Stretches.{listed_beside, reads_beside, stays_beside}
use Rattle.at_index.proofs.of_runs.Over.{noted_from, noted_to}
use Rattle.at_index.proofs.tells.Adding.add_own.Goals as goal

pub returns : goal.returns
returns g c =
    let rs = c.args.readers.now in
    let over = edges_over rs.seats.items rs.runs.items in
    let old = own_edges rs.desks.entries rs.own.items in
    let own = c.add_each.new.readers.items in
    let new = own_edges c.add_each.new.desks.entries own in
    record {
      reads = reads_beside over c.add_each.ensures.reads;
      stay = on_ok_weaker c.add_each.result (stays_beside old new over) c.add_each.ensures.stay;
      listed = on_ok_weaker c.add_each.result (listed_beside new (map loc_view c.args.locations.now) over)
          c.add_each.ensures.listed;
      noted = λ n. noted_from own rs.seats.items rs.runs.items c.add_each.new.index_read.items
          (c.add_each.ensures.noted (noted_to rs.own.items rs.seats.items rs.runs.items c.args.index_read.now.items n));
    }
