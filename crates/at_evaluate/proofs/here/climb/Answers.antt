use Rattle.std.proofs.Common.{◌≡◌, ◌∙◌, ◌-◌, ◌++◌, ◌∷◌, [], Some, ap, arith, map, nat_eq, refl, suc}
use Rattle.at_store.specs.Shown.{contents}
use Rattle.at_model.specs.Rules.{attribute_name, by_inherited}
use Rattle.at_rules.specs.Bodies.{body_view}
use Rattle.at_body.specs.Rest.{ev}
use Rattle.at_body.specs.Values.{value_view}
use Rattle.at_evaluate.specs.Place.{place_at}
use Rattle.at_evaluate.proofs.Begun.{begun_none, climbs, found, begun_on}
use Rattle.at_evaluate.proofs.here.climb.Goals as goal

pub loop-height-init : goal.loop-height-init
loop-height-init c = begun_none (contents c.args.store.now) c.args.reads.now _ _ refl

pub returns-in-Some-inherited_body : goal.returns-in-Some-inherited_body
returns-in-Some-inherited_body c =
    let rules = c.args.rules.now in let look = contents c.args.store.now in
    let high : c.loop-height.height ≡ suc (c.loop-height.height - 1) = omega (arith, c.loop-height-test.true) in
    begun_on look c.args.reads.now c.loop-height.reads c.push-in-loop-height.new.self _ _ _ c.loop-height.invariant
    (found rules look (attribute_name rules c.args.attribute) c.args.arguments c.loop-height.height (c.loop-height.height - 1) c.loop-height.below _ _ c.class.result c.in-Some-inherited_body.body.now (place_at c.new.result) c.loop-height.reads c.push.new.self c.push-in-loop-height.new.self high c.in-Some.ensures c.class.ensures
    c.in-Some-inherited_body.ensures c.new.ensures c.in_ok-push-2.ensures.gained c.in_ok-push.ensures.gained)

pub loop-height-preserved : goal.loop-height-preserved
loop-height-preserved c =
    let rules = c.args.rules.now in let look = contents c.args.store.now in
    let high : c.loop-height.height ≡ suc (c.loop-height.height - 1) = omega (arith, c.loop-height-test.true) in
    begun_on look c.args.reads.now c.loop-height.reads c.push-in-loop-height.new.self _ _ _ c.loop-height.invariant
    (climbs rules look (attribute_name rules c.args.attribute) (map value_view c.args.arguments) c.loop-height.height (c.loop-height.height - 1) c.loop-height.below _ _ c.class.result c.loop-height.reads c.push.new.self c.push-in-loop-height.new.self high c.in-Some.ensures c.class.ensures
    c.in_default-inherited_body.ensures c.in_ok-push-2.ensures.gained c.in_ok-push.ensures.gained)
