use Rattle.std.proofs.Common.{◌∙◌, ap, refl, sym, subst}
use Rattle.at_class.specs.declared.circles.Mark.TheVariants.{Circular}
use Rattle.at_class.specs.Climbs.{GoingRound, is_settled}
use Rattle.at_class.specs.View.{classes_view}
use Rattle.at_class.proofs.Circling.{round_begins, round_on, round_meets, round_ends, one_less, within}
use Rattle.at_class.proofs.circles.Circles.go_round.Goals as goal

pub mark-requires : goal.mark-requires
mark-requires c = within c.loop-next.self.marks.items c.in-Some.class (ap is_settled (sym c.mark_of.ensures) ∙ sym c.is_settled.ensures ∙ c.if-is_settled.false)

pub loop-next-init : goal.loop-next-init
loop-next-init c = λ from k. round_begins (classes_view c.args.classes.now) from c.args.self.now.marks.items c.args.self.now.way.items c.args.end k

pub loop-next-preserved : goal.loop-next-preserved
loop-next-preserved c = λ from k.
    subst (λ w. GoingRound (classes_view c.args.classes.now) from c.mark.new.self.marks.items w c.args.end c.parent_of-next.result) (sym c.mark.ensures.way)
    (round_on (classes_view c.args.classes.now) from c.loop-next.self.marks.items c.mark.new.self.marks.items
    c.loop-next.self.way.items c.args.end c.loop-next.next c.in-Some.class c.parent_of-next.result
    (c.loop-next.invariant from k) c.in-Some.is (ap is_settled (sym c.mark_of.ensures) ∙ sym c.is_settled.ensures ∙ c.if-is_settled.false) c.mark.ensures.marks c.parent_of-next.ensures)

pub loop-next-smaller : goal.loop-next-smaller
loop-next-smaller c =
    let new = ap is_settled (sym c.mark_of.ensures) ∙ sym c.is_settled.ensures ∙ c.if-is_settled.false in
    one_less is_settled c.loop-next.self.marks.items c.mark.new.self.marks.items c.in-Some.class Circular (within c.loop-next.self.marks.items c.in-Some.class new) new refl c.mark.ensures.marks

pub returns-then-is_settled : goal.returns-then-is_settled
returns-then-is_settled c = λ from k.
    round_meets (classes_view c.args.classes.now) from c.loop-next.self.marks.items c.loop-next.self.way.items c.args.end c.loop-next.next c.in-Some.class
    (c.loop-next.invariant from k) c.in-Some.is (ap is_settled (sym c.mark_of.ensures) ∙ sym c.is_settled.ensures ∙ c.if-is_settled.true)

pub returns : goal.returns
returns c = λ from k. round_ends (classes_view c.args.classes.now) from c.loop-next.self.marks.items
    c.loop-next.self.way.items c.args.end c.loop-next.next (c.loop-next.invariant from k) c.in_default.is
