use Rattle.at_cache.proofs.Common.{take, list_any, Answers, sees, GoesOn, edges_to}
use Rattle.at_cache.proofs.places.begin_nodes.Given as goal

abbrev pub invariant-loop-node : goal.invariant-loop-node
invariant-loop-node g l = GoesOn (Answers (goal.F-post g l.touched)) (λ k. list_any (λ n. sees l.scope n k) (take l.node-index l.nodes)) (edges_to l.readers) l.initial.first l.initial.cut l.first l.cut
