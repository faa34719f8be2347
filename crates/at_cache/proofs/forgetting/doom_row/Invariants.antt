use Rattle.at_cache.proofs.Common.{◌≡◌, ◌++◌, List, length, Edge, GoesOver, edges_of}
use Rattle.at_cache.proofs.forgetting.doom_row.Given as goal

-- those before the rest were gone over
abbrev pub invariant-loop-edge : goal.invariant-loop-edge
invariant-loop-edge l = (done : List Edge) × (edges_of l.row ≡ done ++ edges_of l.rest) × GoesOver l.loss done l.initial.first l.initial.cut l.first l.cut

abbrev pub decreases-loop-edge : goal.decreases-loop-edge
decreases-loop-edge l = length (edges_of l.rest)
