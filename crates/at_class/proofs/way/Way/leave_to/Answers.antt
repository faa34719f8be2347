use Rattle.std.proofs.Common.{◌∙◌, sym, inl, inr, arith}
use Rattle.at_model.specs.Classes.{parent_of}
use Rattle.at_class.specs.View.{classes_view}
use Rattle.at_class.specs.Ways.{top_of}
use Rattle.at_class.proofs.Descents.{none_left, one_less, popped, same, still}
use Rattle.at_class.proofs.way.Way.leave_to.Goals as goal

pub loop-class-init : goal.loop-class-init
loop-class-init c = λ led w. w

pub loop-class-preserved : goal.loop-class-preserved
loop-class-preserved c = λ led w.
    popped (classes_view c.args.classes.now) c.loop-class.self.levels.items c.pop.new.self.items c.in-Some.level
    c.loop-class.self.taken c.cut.new.self led c.in-Some.ensures.items c.cut.ensures.names c.cut.ensures.accessors
    (c.loop-class.invariant led w)

pub loop-class-smaller : goal.loop-class-smaller
loop-class-smaller c = one_less c.loop-class.self.levels.items c.pop.new.self.items c.in-Some.level c.in-Some.ensures.items

pub returns-in_default : goal.returns-in_default
returns-in_default c = λ led w.
    let none = none_left c.loop-class.self.levels.items (omega (arith, c.in_default.ensures.cases.0, c.loop-class.self.levels.ok.0)) in
    let rest = none_left c.pop.new.self.items (omega (arith, c.in_default.ensures.cases.1, c.pop.new.self.ok.0)) in
    (still (classes_view c.args.classes.now) c.loop-class.self.levels.items c.pop.new.self.items c.loop-class.self.taken none rest (c.loop-class.invariant led w), inr rest)

pub returns : goal.returns
returns c = λ led w.
    let classes = classes_view c.args.classes.now in
    (c.loop-class.invariant led w, inl (same (top_of c.loop-class.self.levels.items) (parent_of classes c.args.class) (sym c.is_above.ensures ∙ c.loop-class-test.false)))
