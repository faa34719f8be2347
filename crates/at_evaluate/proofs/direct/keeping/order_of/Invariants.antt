use Rattle.std.proofs.Common.{take}
use Rattle.at_evaluate.specs.Inner.{AreLazy}
use Rattle.at_evaluate.proofs.direct.keeping.order_of.Given as goal

abbrev pub invariant-loop-inst : goal.invariant-loop-inst
invariant-loop-inst l = AreLazy l.rules (take l.inst-index l.uses)
