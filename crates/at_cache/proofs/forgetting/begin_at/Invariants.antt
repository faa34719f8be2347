use Rattle.at_cache.proofs.Common.{take, Answers, looks_at, GoesOn, edges_among}
use Rattle.at_cache.proofs.forgetting.begin_at.Given as goal

abbrev pub invariant-loop-reader : goal.invariant-loop-reader
invariant-loop-reader g l = GoesOn (Answers (goal.F-post g l.touched)) (looks_at l.scope) (edges_among l.node (take l.reader-index l.readers)) l.initial.first l.initial.cut l.first l.cut
