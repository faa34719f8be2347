use Rattle.at_index.proofs.Common.{length, Keeps, edges_of}
use Rattle.at_index.proofs.linking.trimmed.Given as goal

abbrev pub invariant-loop-edge : goal.invariant-loop-edge
invariant-loop-edge g l = Keeps (g.T.Tells.tells l.teller) (edges_of l.initial.row) (edges_of l.row)

abbrev pub decreases-loop-edge : goal.decreases-loop-edge
decreases-loop-edge g l = length (edges_of l.row)
