use Rattle.std.proofs.Common.{arith, subst, length}
use Rattle.at_complete.specs.Completing.{LacksOwn}
use Rattle.at_complete.specs.Hierarchies.{IsHierarchy}
use Rattle.at_complete.proofs.Attributes.{clear_first, clear_more, first_here, first_none, it_is, it_is_not, own_inside}
use Rattle.at_complete.proofs.completeness.class_without_equation.Goals as goal

pub loop-position-init : goal.loop-position-init
loop-position-init c = clear_first (LacksOwn c.args.rules.now)

pub lacks_own-requires : goal.lacks_own-requires
lacks_own-requires c = subst (λ k. IsHierarchy k c.in_ok-hierarchy.hierarchy) c.classes.ensures c.in_ok-hierarchy.ensures

pub loop-position-preserved : goal.loop-position-preserved
loop-position-preserved c =
    let rules = c.args.rules.now in
    clear_more (LacksOwn rules) c.loop-position.position c.loop-position.invariant
    (subst (λ n. LacksOwn rules n → ⊥) c.new-attribute.ensures (it_is_not (LacksOwn rules c.new-attribute.result) c.in_ok-lacks.lacks c.if-lacks.false c.in_ok-lacks.ensures))

pub returns-then-lacks : goal.returns-then-lacks
returns-then-lacks c =
    let rules = c.args.rules.now in
    first_here (LacksOwn rules) c.loop-position.position c.new-attribute.result
    c.new-attribute.ensures c.loop-position.invariant
    (it_is (LacksOwn rules c.new-attribute.result) c.in_ok-lacks.lacks c.if-lacks.true c.in_ok-lacks.ensures)

pub returns : goal.returns
returns c =
    let rules = c.args.rules.now in
    first_none (LacksOwn rules) c.loop-position.position (length rules.attributes) (omega (
      arith,
      c.len-count.ensures,
      c.loop-position-test.false,
      c.loop-position.auto,
    )) c.loop-position.invariant (own_inside rules)
