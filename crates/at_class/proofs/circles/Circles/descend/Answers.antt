use Rattle.std.proofs.Common.{◌∙◌, ap, refl, sym, subst, arith}
use Rattle.at_class.specs.Climbs.{Descending, is_settled}
use Rattle.at_class.proofs.Circling.{down, down_settled, down_clear, within, popped, emptied}
use Rattle.at_class.proofs.circles.Circles.descend.Goals as goal

pub mark-requires : goal.mark-requires
mark-requires c = within c.loop-class.self.marks.items c.in-Some.class (ap is_settled (sym c.mark_of.ensures) ∙ sym c.is_settled.ensures ∙ c.if-not-is_settled.true)

pub loop-class-preserved : goal.loop-class-preserved
loop-class-preserved c = λ classes from k.
    down_settled classes from c.loop-class.self.marks.items c.loop-class.self.way.items c.pop.new.self.items c.in-Some.class (c.loop-class.invariant classes from k)
    c.in-Some.ensures.items (ap is_settled (sym c.mark_of.ensures) ∙ sym c.is_settled.ensures ∙ c.if-not-is_settled.false)

pub loop-class-preserved-then-not-is_settled : goal.loop-class-preserved-then-not-is_settled
loop-class-preserved-then-not-is_settled c = λ classes from k.
    subst (Descending classes from c.mark.new.self.marks.items) (sym c.mark.ensures.way)
    (down_clear classes from c.loop-class.self.marks.items c.mark.new.self.marks.items c.loop-class.self.way.items c.pop.new.self.items c.in-Some.class (c.loop-class.invariant classes from k)
    c.in-Some.ensures.items (ap is_settled (sym c.mark_of.ensures) ∙ sym c.is_settled.ensures ∙ c.if-not-is_settled.true) c.mark.ensures.marks)

pub loop-class-smaller : goal.loop-class-smaller
loop-class-smaller c = popped c.loop-class.self.way.items c.pop.new.self.items c.pop.new.self.items c.in-Some.class c.in-Some.ensures.items refl

pub loop-class-smaller-then-not-is_settled : goal.loop-class-smaller-then-not-is_settled
loop-class-smaller-then-not-is_settled c = popped c.loop-class.self.way.items c.pop.new.self.items c.mark.new.self.way.items c.in-Some.class c.in-Some.ensures.items c.mark.ensures.way

pub returns : goal.returns
returns c = λ classes from k.
    let none = emptied c.loop-class.self.way.items (omega (arith, c.in_default.ensures.cases.0, c.loop-class.self.way.ok.0)) in
    let rest = emptied c.pop.new.self.items (omega (arith, c.in_default.ensures.cases.1, c.pop.new.self.ok.0)) in
    let d = down classes from c.loop-class.self.marks.items c.loop-class.self.way.items (c.loop-class.invariant classes from k) none in
    ((d.0, rest), d.1)
