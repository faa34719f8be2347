use Rattle.at_cache.proofs.Common.{List, ℕ, subst, take_all, list_any, GoesOn, sees, Answers, edges_to}
use Rattle.at_cache.proofs.Naming.{goes_next, goes_nowhere}
use Rattle.at_cache.proofs.places.begin_nodes.Goals as goal

pub loop-node-init : goal.loop-node-init
loop-node-init g c = goes_nowhere c.args.first c.args.cut.now (λ l h. absurd (cc))

pub loop-node-preserved : goal.loop-node-preserved
loop-node-preserved g c = goes_next c.args.nodes.now c.loop-node.node-index c.node-item.result c.args.scope c.node-item.is c.loop-node-test.true c.loop-node.invariant c.begin_node-first.ensures

pub returns : goal.returns
returns g c = subst (λ (ns : List ℕ). GoesOn (Answers (goal.F-post g c.args.touched.now)) (λ l. list_any (λ n. sees c.args.scope n l) ns) (edges_to c.args.readers.now) c.args.first c.args.cut.now c.loop-node.first c.loop-node.cut) (take_all c.loop-node.node-index c.args.nodes.now c.loop-node-test.false) c.loop-node.invariant
