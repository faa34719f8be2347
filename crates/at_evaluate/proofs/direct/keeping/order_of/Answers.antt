use Rattle.std.proofs.Common.{ℕ, List, true, subst, arith}
use Rattle.std.proofs.lemmas.List.{take_all}
use Rattle.at_model.specs.Run.{Instance}
use Rattle.at_evaluate.proofs.of_traces.Lazily.{told_lazy, lazy_more}
use Rattle.at_evaluate.specs.Inner.{AreLazy}
use Rattle.at_evaluate.proofs.direct.keeping.order_of.Goals as goal

pub loop-inst-init : goal.loop-inst-init
loop-inst-init c = λ u h. absurd (omega (arith, h.1))

pub loop-inst-preserved : goal.loop-inst-preserved
loop-inst-preserved c =
    let is = told_lazy c.args.rules.now c.is_lazy.result true c.attribute.result c.inst-item.result.attribute
    c.is_lazy.ensures c.attribute.ensures c.if-not-is_lazy.false in
    lazy_more c.args.rules.now c.args.uses.now c.loop-inst.inst-index c.inst-item.result c.loop-inst-test.true
    c.inst-item.is is c.loop-inst.invariant

pub returns : goal.returns
returns c = λ is. subst (λ (us : List (Instance ℕ)). AreLazy c.args.rules.now us) (take_all c.loop-inst.inst-index
    c.args.uses.now c.loop-inst-test.false) c.loop-inst.invariant
