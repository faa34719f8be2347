use Rattle.at_index.proofs.Common.{Answers}
use Rattle.at_index.proofs.Beginning.{AreFalse}
use Rattle.at_index.proofs.facet.is_any_touched.Given as goal

abbrev pub invariant-loop-number : goal.invariant-loop-number
invariant-loop-number g l = AreFalse (Answers (goal.F-post g l.touched)) l.node l.set l.number
