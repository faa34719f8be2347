use Rattle.at_cache.proofs.Common.{take, GoesOver, edges_past}
use Rattle.at_cache.specs.declared.cut.Loss.TheVariants as loss
use Rattle.at_cache.proofs.forgetting.doom_past.Given as goal

abbrev pub invariant-loop-reach : goal.invariant-loop-reach
invariant-loop-reach l = GoesOver loss.Both (edges_past l.place (take l.reach-index l.edges)) l.initial.first l.initial.cut l.first l.cut
