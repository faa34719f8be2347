use Rattle.at_store.specs.Shown.{contents}
use Rattle.std.proofs.Common.{refl, arith, ◌≡◌, ◌-◌, suc, ◌∙◌, Some, sym}
use Rattle.at_rules.specs.Bodies.{body_view}
use Rattle.at_body.proofs.Climbing.{climbs, found}
use Rattle.at_body.proofs.Formed.{form_climbs, form_found}
use Rattle.at_body.specs.Typed.{class_shown}
use Rattle.at_model.specs.Rules.{attribute_name}
use Rattle.at_body.proofs.of_typing.TypedStarting.{passed_stands, at_parent, parent_class, has_parent, some_class, goes_on_above}
use Rattle.at_body.proofs.trial.Trial.climb.Goals as goal

pub returns-in-Some-inherited_body-clause-same : goal.returns-in-Some-inherited_body-clause-same
returns-in-Some-inherited_body-clause-same c = let h = rw c.class.ensures at c.in-Some-inherited_body.ensures in let high : c.loop-height.height ≡ suc (c.loop-height.height - 1) = omega (arith, c.loop-height-test.true) in
    rw (c.in_ok-push-2.ensures.gained, c.in_ok-push.ensures.gained) (c.loop-height.invariant.same ∙ found c.args.rules.now (contents c.args.store.now) _ _ _ _ (c.loop-height.height - 1) _ _ _ (body_view c.in-Some-inherited_body.body.now) (record c.loop-height.self { this = _; child = Some c.loop-height.self.this; reads = c.push-in-loop-height.new.self }) high c.in-Some.ensures h c.loop-height.invariant.idle c.loop-height.invariant.unbound refl refl refl)

pub returns-in-Some-inherited_body-clause-formed : goal.returns-in-Some-inherited_body-clause-formed
returns-in-Some-inherited_body-clause-formed c = let h = rw c.class.ensures at c.in-Some-inherited_body.ensures in let high : c.loop-height.height ≡ suc (c.loop-height.height - 1) = omega (arith, c.loop-height-test.true) in
    rw (c.in_ok-push-2.ensures.gained, c.in_ok-push.ensures.gained) (c.loop-height.invariant.formed ∙ form_found c.args.rules.now (contents c.args.store.now) _ c.args.attribute _ _ (c.loop-height.height - 1) _ _ _ high c.in-Some.ensures c.in-Some-inherited_body.body.now (record c.loop-height.self { this = _; child = Some c.loop-height.self.this; reads = c.push-in-loop-height.new.self }) h c.loop-height.invariant.unbound refl refl refl)

pub returns-in-Some-inherited_body-clause-equation : goal.returns-in-Some-inherited_body-clause-equation
returns-in-Some-inherited_body-clause-equation c = let high : c.loop-height.height ≡ suc (c.loop-height.height - 1) = omega (arith, c.loop-height-test.true) in let above = at_parent c.args.rules.now (class_shown c.args.store.now) (contents c.args.store.now) (attribute_name c.args.rules.now c.args.attribute) c.loop-height.height (c.loop-height.height - 1) c.loop-height.self.this _ _ high c.in-Some.ensures c.loop-height.invariant.above in
    passed_stands c.args.rules.now c.requires.formed (class_shown c.args.store.now) (contents c.args.store.now) c.args.self.now (record c.loop-height.self { this = _; child = Some c.loop-height.self.this; reads = c.push-in-loop-height.new.self }) c.requires.typed.0 c.args.attribute c.in-Some-inherited_body.body.now c.requires.typed.1 c.requires.inherited c.loop-height.invariant.arguments _ c.class.result c.loop-height.self.this refl (parent_class c.args.rules.now (class_shown c.args.store.now) (contents c.args.store.now) (attribute_name c.args.rules.now c.args.attribute) (c.loop-height.height - 1) _ _ c.class.result c.class.ensures above) c.loop-height.invariant.there c.loop-height.invariant.unbound (sym c.in-Some-inherited_body.ensures)

pub unreachable-requires : goal.unreachable-requires
unreachable-requires c = let high : c.loop-height.height ≡ suc (c.loop-height.height - 1) = omega (arith, c.loop-height-test.true) in
    has_parent c.args.rules.now (class_shown c.args.store.now) (contents c.args.store.now) (attribute_name c.args.rules.now c.args.attribute) c.loop-height.height (c.loop-height.height - 1) c.loop-height.self.this high (sym c.in_default.is ∙ c.up.ensures) c.loop-height.invariant.above

pub loop-height-preserved : goal.loop-height-preserved
loop-height-preserved c =
    let high : c.loop-height.height ≡ suc (c.loop-height.height - 1) = omega (arith, c.loop-height-test.true) in
    let above = at_parent c.args.rules.now (class_shown c.args.store.now) (contents c.args.store.now) (attribute_name c.args.rules.now c.args.attribute) c.loop-height.height (c.loop-height.height - 1) c.loop-height.self.this _ _ high c.in-Some.ensures c.loop-height.invariant.above in
    let h = rw c.class.ensures at c.in_default-inherited_body.ensures in
    record {
      idle = c.loop-height.invariant.idle;
      unbound = c.loop-height.invariant.unbound;
      arguments = c.loop-height.invariant.arguments;
      there = some_class c.args.rules.now (class_shown c.args.store.now) (contents c.args.store.now) (attribute_name c.args.rules.now c.args.attribute) _ c.class.result (parent_class c.args.rules.now (class_shown c.args.store.now) (contents c.args.store.now) (attribute_name c.args.rules.now c.args.attribute) (c.loop-height.height - 1) _ _ c.class.result c.class.ensures above);
      above = goes_on_above c.args.rules.now (class_shown c.args.store.now) (contents c.args.store.now) (attribute_name c.args.rules.now c.args.attribute) (c.loop-height.height - 1) _ _ c.class.result c.class.ensures c.in_default-inherited_body.ensures above;
      formed = rw (c.in_ok-push-2.ensures.gained, c.in_ok-push.ensures.gained) (c.loop-height.invariant.formed ∙ form_climbs c.args.rules.now (contents c.args.store.now) _ c.args.attribute _ _ (c.loop-height.height - 1) _ _ _ high c.in-Some.ensures h);
      same = rw (c.in_ok-push-2.ensures.gained, c.in_ok-push.ensures.gained) (c.loop-height.invariant.same ∙ climbs c.args.rules.now (contents c.args.store.now) _ _ _ _ (c.loop-height.height - 1) _ _ _ high c.in-Some.ensures h);
    }
