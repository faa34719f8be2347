use Rattle.std.proofs.Common.{◌<◌, ◌∙◌, ap, sym, subst, arith, Option}
use Rattle.at_model.specs.Classes.{parent_of}
use Rattle.at_class.specs.View.{classes_view}
use Rattle.at_class.specs.Intervals.{AreNumbered, interval_at}
use Rattle.at_class.proofs.Numbered.{closes, span}
use Rattle.at_class.proofs.intervals.Numbering.close_to.Goals as goal

pub loop-step-preserved : goal.loop-step-preserved
loop-step-preserved c =
    let classes = classes_view c.args.classes.now in
    let end = c.loop-step.self.end in
    let next = c.args.number in
    let is = c.loop-step.self.intervals.items in
    let t = c.in-Some.class in
    let less : next < end = omega (arith, c.requires.0, c.loop-step.invariant.1) in
    let first = ap (λ i. span i.first next) (c.interval_of-first.ensures ∙ ap (λ xs. interval_at xs t) c.deref.ensures.value) in
    let n = subst (λ (o : Option _). AreNumbered classes end next (interval_at is) o) c.in-Some.is c.loop-step.invariant.0 in
    let closed = closes classes end next is t (span c.interval_of-first.result.first next) less n first in
    let put = subst (λ xs. AreNumbered classes end next (interval_at xs) (parent_of classes t)) (sym c.put.ensures) closed in
    (subst (λ o. AreNumbered classes end next (interval_at c.put.new.intervals.items) o) (sym c.parent_of-self.ensures) put, c.loop-step.invariant.1)
