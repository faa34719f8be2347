use Rattle.std.proofs.Common.{◌<◌, ◌+◌, ◌∙◌, sym, subst, arith, Some}
use Rattle.at_class.specs.View.{classes_view}
use Rattle.at_class.specs.Intervals.{AreNumbered, interval_at}
use Rattle.at_class.proofs.Descents.{same}
use Rattle.at_class.proofs.Numbered.{opens}
use Rattle.at_class.proofs.intervals.Numbering.enter.Goals as goal

pub returns-then-is_new-clause-numbered : goal.returns-then-is_new-clause-numbered
returns-then-is_new-clause-numbered c =
    let classes = classes_view c.args.classes.now in
    let end = c.close_to.new.self.end in
    let is = c.close_to.new.self.intervals.items in
    let less : c.args.number < end = omega (arith, c.requires.0, c.close_to.ensures.end) in
    let lowest = same c.close_to.new.self.lowest c.parent_of-superclass.result (sym c.eq.ensures ∙ c.if-eq.true) ∙ c.parent_of-superclass.ensures in
    let n = subst (λ o. AreNumbered classes end c.args.number (interval_at is) o) lowest c.close_to.ensures.numbered in
    let new = c.is_new.ensures c.if-is_new.true in
    subst (λ xs. AreNumbered classes end (c.args.number + 1) (interval_at xs) (Some c.args.class)) (sym c.put.ensures)
    (opens classes end c.args.number is c.args.class less n new.0 new.1)
