use Rattle.std.proofs.Common.{arith, ap, ◌∙◌, subst, length}
use Rattle.std.specs.Prelude.{nat_eq, true}
use Rattle.at_model.specs.Classes.{AreSound}
use Rattle.at_model.specs.Rules.{attribute_name}
use Rattle.at_complete.specs.Completing.{leads, AllExposed}
use Rattle.at_complete.proofs.Walking.{ends_full}
use Rattle.at_complete.proofs.Exposing.{exposing_begins, exposing_on, exposing_stops}
use Rattle.at_complete.proofs.exposure.exposed_walk.Goals as goal

pub loop-step-init : goal.loop-step-init
loop-step-init c =
    exposing_begins c.args.rules.now (subst AreSound c.classes-classes.ensures c.len-count.ensures.sound) (attribute_name c.args.rules.now c.args.attribute) c.len-count.result c.start.result _ _
    (c.len-count.ensures.len ∙ ap length c.classes-classes.ensures) c.start.ensures.first c.in_ok-walk.ensures

pub loop-step-preserved : goal.loop-step-preserved
loop-step-preserved c =
    exposing_on c.args.rules.now (subst AreSound c.classes-classes.ensures c.len-count.ensures.sound) (attribute_name
    c.args.rules.now c.args.attribute) c.loop-step.step c.in-Some.class c.next_pending.result _ _ _ _ _ _
    c.loop-step.invariant c.next_pending.ensures.met c.next_pending.ensures.pending c.in-Some.is c.in_ok-meet_from.ensures

pub returns-in_default : goal.returns-in_default
returns-in_default c =
    exposing_stops c.args.rules.now (attribute_name c.args.rules.now c.args.attribute) c.loop-step.step
    c.next_pending.result _ _ _ c.loop-step.invariant c.next_pending.ensures.met c.in_default.is
    c.next_pending.ensures.none

pub returns : goal.returns
returns c =
    let same = c.len-count.ensures.len ∙ ap length c.classes-classes.ensures in
    ends_full (length c.args.rules.now.classes) (λ c. nat_eq c 0)
    (leads c.args.rules.now (attribute_name c.args.rules.now c.args.attribute)) (λ c. true)
    (AllExposed c.args.rules.now (attribute_name c.args.rules.now c.args.attribute))
    c.loop-step.step _ _ (omega (arith, same)) c.loop-step.invariant
