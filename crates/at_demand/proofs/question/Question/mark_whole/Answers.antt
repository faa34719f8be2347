use Rattle.std.proofs.Common.{ℕ, List, [], ◌∷◌, ◌++◌, take, ap, sym, ◌∙◌, subst}
use Rattle.std.proofs.lemmas.List.{take_all, take_more}
use Rattle.at_model.specs.Run.{Instance}
use Rattle.at_demand.specs.ChainSteps.{HasMarkedAll}
use Rattle.at_demand.proofs.Marking.{more_marked, none_marked}
use Rattle.at_demand.proofs.question.Question.mark_whole.Goals as goal

pub loop-inst-init : goal.loop-inst-init
loop-inst-init c = record { marked = none_marked c.args.self.now }

pub loop-inst-preserved : goal.loop-inst-preserved
loop-inst-preserved c =
    let is = c.as_slice-insts.result.now in
    let n = c.loop-inst.inst-index in
    let i = c.inst-item.result in
    record {
      marked = subst (λ (ks : List (Instance ℕ)). HasMarkedAll ks c.args.self.now c.mark.new.self)
          (sym (take_more is n i c.loop-inst-test.true ∙ ap (λ k. take n is ++ k ∷ []) (sym c.inst-item.is)))
          (more_marked (take n is) i c.args.self.now c.loop-inst.self c.mark.new.self c.loop-inst.invariant.marked c.mark.ensures);
    }

pub returns : goal.returns
returns c = subst (λ (is : List (Instance ℕ)). HasMarkedAll is c.args.self.now c.loop-inst.self)
    (take_all c.loop-inst.inst-index c.as_slice-insts.result.now c.loop-inst-test.false ∙ c.as_slice-insts.ensures ∙ c.keys.ensures.rest) c.loop-inst.invariant.marked
