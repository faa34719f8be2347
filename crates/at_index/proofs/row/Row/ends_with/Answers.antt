use Rattle.at_index.proofs.Common.{Contains, arith, subst, Edge, edges_from}
use Rattle.at_index.proofs.RowEdges.{ends_so}
use Rattle.at_index.proofs.row.Row.ends_with.Goals as goal

pub returns-in-Some : goal.returns-in-Some
returns-in-Some c h =
    let place = c.in-Some.place in
    subst (λ (f : Edge). Contains (edges_from f c.args.self.now.step 0 c.args.self.now.count) c.args.edge) c.first.ensures
    (ends_so c.first.result c.args.edge c.args.self.now.step c.args.self.now.count place c.way.result (omega arith)
    (omega arith) (omega arith) c.way.ensures (c.lies.ensures.slot h) (c.lies.ensures.stamp h))
