use Rattle.std.proofs.Common.{arith, length}
use Rattle.std.specs.Prelude.{true}
use Rattle.at_complete.specs.Completing.{leads_up, is_met_concrete, HasBelow}
use Rattle.at_complete.proofs.Walking.{ends_full}
use Rattle.at_complete.proofs.Exposing.{marking_begins, marking_on, marking_stops}
use Rattle.at_complete.proofs.exposure.with_those_above.Goals as goal

pub loop-step-init : goal.loop-step-init
loop-step-init c = marking_begins c.args.classes.now c.args.exposed.now.met.items _ _ c.in_ok-walk.ensures

pub loop-step-preserved : goal.loop-step-preserved
loop-step-preserved c =
    marking_on c.args.classes.now c.len-count.ensures.sound c.args.exposed.now.met.items c.loop-step.step c.in-Some.class c.next_pending.result c.parent.result _ _ _ _ _ _
    c.loop-step.invariant c.next_pending.ensures.met c.next_pending.ensures.pending c.in-Some.is c.parent.ensures.found c.in_ok-meet_some.ensures

pub returns-in_default : goal.returns-in_default
returns-in_default c = (
  c.len-count.ensures.sound,
  marking_stops c.args.classes.now c.args.exposed.now.met.items c.loop-step.step c.next_pending.result
      _ _ _ c.loop-step.invariant c.next_pending.ensures.met c.in_default.is c.next_pending.ensures.none,
)

pub returns : goal.returns
returns c =
    let same = c.len-count.ensures.len in (
      c.len-count.ensures.sound,
      ends_full (length c.args.classes.now) (is_met_concrete c.args.classes.now c.args.exposed.now.met.items)
          (leads_up c.args.classes.now) (λ c. true) (HasBelow c.args.classes.now c.args.exposed.now.met.items)
          c.loop-step.step _ _ (omega (arith, same)) c.loop-step.invariant,
    )
