use Rattle.std.proofs.Common.{arith, subst, length}
use Rattle.at_complete.specs.Completing.{LacksInherited}
use Rattle.at_complete.specs.Hierarchies.{IsHierarchy}
use Rattle.at_complete.proofs.Attributes.{clear_first, clear_more, first_here, first_none, inherited_inside, it_is, it_is_not, none_met}
use Rattle.at_complete.proofs.exposure.inherited_without_equation.Goals as goal

pub loop-position-init : goal.loop-position-init
loop-position-init c = (clear_first (LacksInherited c.args.rules.now), none_met c.args.rules.now c.new-exposed.result c.new-exposed.ensures.empty)

pub is_exposed-requires : goal.is_exposed-requires
is_exposed-requires c = (subst (λ k. IsHierarchy k c.in_ok-hierarchy.hierarchy) c.classes.ensures c.in_ok-hierarchy.ensures, c.loop-position.invariant.1)

pub loop-position-preserved : goal.loop-position-preserved
loop-position-preserved c =
    let rules = c.args.rules.now in (
      clear_more (LacksInherited rules) c.loop-position.position c.loop-position.invariant.0
          (subst (λ n. LacksInherited rules n → ⊥) c.new-attribute.ensures (it_is_not (LacksInherited rules c.new-attribute.result) c.in_ok-lacks.lacks c.if-lacks.false c.in_ok-lacks.ensures.1)),
      c.in_ok-lacks.ensures.0,
    )

pub returns-then-lacks : goal.returns-then-lacks
returns-then-lacks c =
    let rules = c.args.rules.now in
    first_here (LacksInherited rules) c.loop-position.position c.new-attribute.result c.new-attribute.ensures
    c.loop-position.invariant.0 (it_is (LacksInherited rules c.new-attribute.result) c.in_ok-lacks.lacks
    c.if-lacks.true c.in_ok-lacks.ensures.1)

pub returns : goal.returns
returns c =
    let rules = c.args.rules.now in
    first_none (LacksInherited rules) c.loop-position.position (length rules.attributes)
    (omega (arith, c.len-count.ensures, c.loop-position-test.false, c.loop-position.auto))
    c.loop-position.invariant.0 (inherited_inside rules)
