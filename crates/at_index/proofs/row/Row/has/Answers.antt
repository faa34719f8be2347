use Rattle.at_index.proofs.Common.{Contains, arith, subst, Edge, edges_from}
use Rattle.at_index.proofs.RowEdges.{stands_so}
use Rattle.at_index.proofs.row.Row.has.Goals as goal

pub returns : goal.returns
returns c h =
    subst (λ (f : Edge). Contains (edges_from f c.args.self.now.step 0 c.args.self.now.count) c.args.edge) c.first.ensures
    (stands_so c.first.result c.args.edge c.args.self.now.step c.args.self.now.count _ _ (omega arith) (omega arith) (omega arith) c.way_to.ensures (c.lies.ensures.slot h)
    (c.lies.ensures.stamp h))
