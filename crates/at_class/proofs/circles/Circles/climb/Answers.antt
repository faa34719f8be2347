use Rattle.std.proofs.Common.{◌∙◌, ap, refl, sym}
use Rattle.at_class.specs.declared.circles.Mark.TheVariants.{OnWay}
use Rattle.at_class.specs.Climbs.{is_met}
use Rattle.at_class.specs.View.{classes_view}
use Rattle.at_class.proofs.Circling.{climb_begins, climb_on, climb_meets, climb_ends, one_less, there}
use Rattle.at_class.proofs.circles.Circles.climb.Goals as goal

pub mark-requires : goal.mark-requires
mark-requires c = there c.loop-next.self.marks.items c.in-Some.class (ap is_met (sym c.mark_of.ensures) ∙ sym c.is_met.ensures ∙ c.if-is_met.false)

pub loop-next-init : goal.loop-next-init
loop-next-init c = climb_begins (classes_view c.args.classes.now) c.args.from c.args.self.now.marks.items c.args.self.now.way.items c.requires.0 c.requires.1

pub loop-next-preserved : goal.loop-next-preserved
loop-next-preserved c =
    climb_on (classes_view c.args.classes.now) c.args.from c.loop-next.self.marks.items c.mark.new.self.marks.items
    c.loop-next.self.way.items c.mark.new.self.way.items c.in-Some.class c.loop-next.next c.parent_of-next.result
    c.loop-next.invariant c.in-Some.is (ap is_met (sym c.mark_of.ensures) ∙ sym c.is_met.ensures ∙ c.if-is_met.false)
    c.mark.ensures.marks (c.mark.ensures.way ∙ c.in_ok-push.ensures.items) c.parent_of-next.ensures

pub loop-next-smaller : goal.loop-next-smaller
loop-next-smaller c =
    let new = ap is_met (sym c.mark_of.ensures) ∙ sym c.is_met.ensures ∙ c.if-is_met.false in
    one_less is_met c.loop-next.self.marks.items c.mark.new.self.marks.items c.in-Some.class OnWay (there c.loop-next.self.marks.items c.in-Some.class new) new refl c.mark.ensures.marks

pub returns-then-is_met : goal.returns-then-is_met
returns-then-is_met c =
    climb_meets (classes_view c.args.classes.now) c.args.from c.loop-next.self.marks.items c.loop-next.self.way.items c.in-Some.class c.loop-next.next
    c.loop-next.invariant c.in-Some.is (ap is_met (sym c.mark_of.ensures) ∙ sym c.is_met.ensures ∙ c.if-is_met.true)

pub returns : goal.returns
returns c = climb_ends (classes_view c.args.classes.now) c.args.from c.loop-next.self.marks.items c.loop-next.self.way.items c.loop-next.next c.loop-next.invariant c.in_default.is
