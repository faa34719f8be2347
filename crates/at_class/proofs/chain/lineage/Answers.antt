use Rattle.std.proofs.Common.{◌∙◌, ◌-◌, ◌+◌, ◌++◌, [], ◌∷◌, ap, sym, arith, length, append_assoc, append-nil}
use Rattle.at_model.specs.Classes.{chain_within, parent_of}
use Rattle.at_class.specs.View.{classes_view}
use Rattle.at_class.proofs.Chains.{chain_within-none, chain_within-step}
use Rattle.at_class.proofs.chain.lineage.Goals as goal

pub returns-in_default : goal.returns-in_default
returns-in_default c =
    let n = length c.args.classes.now in
    let classes = classes_view c.args.classes.now in
    let i = c.loop-step.step in
    sym (c.loop-step.invariant
    ∙ ap (λ o. c.loop-step.met.items ++ chain_within (n - i) classes o) c.in_default.is
    ∙ ap (λ ys. c.loop-step.met.items ++ ys) (chain_within-none classes (n - i))
    ∙ append-nil _)

pub loop-step-preserved : goal.loop-step-preserved
loop-step-preserved c =
    let n = length c.args.classes.now in
    let classes = classes_view c.args.classes.now in
    let i = c.loop-step.step in
    let met = c.loop-step.met.items in
    c.loop-step.invariant
    ∙ ap (λ o. met ++ chain_within (n - i) classes o) c.in-Some.is
    ∙ ap (λ ys. met ++ ys) (chain_within-step classes n i c.in-Some.class (omega arith))
    ∙ sym (append_assoc met (c.in-Some.class ∷ []) (chain_within (n - (i + 1)) classes (parent_of classes c.in-Some.class)))
    ∙ ap (λ ys. ys ++ chain_within (n - (i + 1)) classes (parent_of classes c.in-Some.class)) (sym c.in_ok-push.ensures.items)
    ∙ ap (λ o. c.push.new.self.items ++ chain_within (n - (i + 1)) classes o) (sym c.parent_of-next.ensures)
