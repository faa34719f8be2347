use Rattle.at_cache.proofs.Common.{take, true, Answers, edges_in_desks, GoesOn}
use Rattle.at_cache.proofs.desks.begin_among.Given as goal

abbrev pub invariant-loop-place : goal.invariant-loop-place
invariant-loop-place g l = GoesOn (Answers (goal.F-post g l.touched)) (λ k. true) (edges_in_desks l.node (take l.place l.desks.spots.entries)) l.initial.first l.initial.cut l.first l.cut
