use Rattle.at_index.proofs.Common.{◌∷◌, ap, arith, map, IfOk-weaker, on_ok_weaker, loc_view, desk_edges, own_edges, edges_at, ListsBut}
use Rattle.at_index.proofs.DeskEdges.{but_more, first_in, first_listed}
use Rattle.at_index.proofs.of_runs.Stretches.{adds_beside, but_beside, reads_beside, reads_within, stays_behind, stays_beside}
use Rattle.at_index.proofs.tells.Adding.add_first.Goals as goal

pub returns-in_err-add_drawer-in-Drawer-clause-reads : goal.returns-in_err-add_drawer-in-Drawer-clause-reads
returns-in_err-add_drawer-in-Drawer-clause-reads g c =
    reads_within (reads_beside (edges_at c.args.readers.now.items) c.add_drawer.ensures.reads)
    (first_in (map loc_view c.args.others.now) (ap loc_view c.in-Drawer.is))

pub returns-in_ok-add_drawer-in-Drawer : goal.returns-in_ok-add_drawer-in-Drawer
returns-in_ok-add_drawer-in-Drawer g c =
    let at = edges_at c.args.readers.now.items in
    let old = desk_edges c.args.desks.now.entries in
    let new = desk_edges c.add_drawer.new.all.entries in
    let ls = map loc_view c.args.others.now in
    let is = ap loc_view c.in-Drawer.is in
    record {
      reads = reads_within (reads_beside at c.add_drawer.ensures.reads) (first_in ls is);
      stay = stays_beside old new at c.add_drawer.ensures.stay;
      listed = but_more at (first_listed (loc_view c.args.location) ls new is c.in_ok-add_drawer-in-Drawer.ensures.has);
      noted = λ n. n;
      short = λ h. h;
      fewer = omega arith;
    }

pub returns-in_default : goal.returns-in_default
returns-in_default g c =
    let desks = desk_edges c.args.desks.now.entries in
    let old = edges_at c.args.readers.now.items in
    let new = edges_at c.add_near.new.readers.items in
    let all = loc_view c.args.location ∷ map loc_view c.args.others.now in
    record {
      reads = adds_beside desks c.add_near.ensures.reads;
      stay = on_ok_weaker c.add_near.result (stays_behind desks old new) c.add_near.ensures.stay;
      listed = IfOk-weaker c.add_near.result _ (λ left. ListsBut c.args.self.now.edge all (map loc_view left.now) (own_edges c.args.desks.now.entries c.add_near.new.readers.items))
          (λ left but. but_beside desks but) c.add_near.ensures.listed;
      noted = c.add_near.ensures.noted;
      short = c.add_near.ensures.short;
      fewer = c.add_near.ensures.fewer;
    }
