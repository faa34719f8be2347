use Rattle.std.proofs.Common.{take}
use Rattle.at_demand.specs.ChainSteps.{HasMarkedAll}
use Rattle.at_demand.proofs.question.Question.mark_whole.Given as goal

abbrev pub invariant-loop-inst : goal.invariant-loop-inst
invariant-loop-inst l = record { marked : HasMarkedAll (take l.inst-index l.insts) l.initial.self l.self }
