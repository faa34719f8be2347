use Rattle.std.proofs.Common.{◌≡◌, ◌∙◌, ap, sym, subst, false}
use Rattle.at_model.specs.Classes.{is_sub}
use Rattle.at_class.specs.Intervals.{has, interval_at, is_empty}
use Rattle.at_class.proofs.table.ClassTable.is_sub.Goals as goal

pub returns : goal.returns
returns c =
    let is = c.self.inside.intervals.items in
    let own : c.interval_of-own.result ≡ interval_at is c.args.class = c.interval_of-own.ensures ∙ ap (λ xs. interval_at xs c.args.class) c.deref.ensures.value in
    let other : c.interval_of.result ≡ interval_at is c.args.above = c.interval_of.ensures ∙ ap (λ xs. interval_at xs c.args.above) c.deref-2.ensures.value in
    let some = subst (λ i. is_empty i ≡ false) own (sym c.is_empty.ensures ∙ c.if-is_empty.false) in
    c.has.ensures
    ∙ ap (λ i. has i c.interval_of-own.result.first) other
    ∙ ap (λ i. has (interval_at is c.args.above) i.first) own
    ∙ sym (c.self.invariant.numbers c.args.class c.args.above some)
    ∙ ap (λ classes. is_sub classes c.args.class c.args.above) c.self.view_is
