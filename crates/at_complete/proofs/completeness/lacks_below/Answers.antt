use Rattle.std.proofs.Common.{◌≡◌, ℕ, arith, ap, sym, ◌∙◌, subst, length, true≢false}
use Rattle.std.specs.Prelude.{Bool, true, false, option_map}
use Rattle.at_model.specs.Classes.{AreSound}
use Rattle.at_model.specs.Rules.{Rules}
use Rattle.at_complete.specs.Completing.{LooksAt}
use Rattle.at_complete.specs.declared.walk.Walk.{Walk}
use Rattle.at_rules.specs.Bodies.{body_view}
use Rattle.at_complete.proofs.Lacking.{lacks_none_above, lacking_begins, lacking_on, lacking_found, lacking_stops, lacking_out}
use Rattle.at_complete.proofs.completeness.lacks_below.Goals as goal

found : (t : Bool) (rules : Rules) (attribute c : ℕ) (old new : Walk) → t ≡ true → LooksAt t rules attribute c old new → LooksAt true rules attribute c old new
found true rules attribute c old new e m = m
found false rules attribute c old new e m = absurd (true≢false (sym e))

goes_on : (t : Bool) (rules : Rules) (attribute c : ℕ) (old new : Walk) → t ≡ false → LooksAt t rules attribute c old new → LooksAt false rules attribute c old new
goes_on true rules attribute c old new e m = absurd (true≢false e)
goes_on false rules attribute c old new e m = m

pub returns-in-Some : goal.returns-in-Some
returns-in-Some c =
    lacks_none_above c.args.rules.now (subst AreSound c.classes.ensures c.len-count.ensures.sound) c.args.class
    c.args.attribute _ (sym c.own_body.ensures ∙ ap (option_map (λ b. body_view b.now)) c.in-Some.is)

pub loop-step-init : goal.loop-step-init
loop-step-init c =
    lacking_begins c.args.rules.now c.args.class c.args.attribute c.len-count.result
    _ _ (sym c.own_body.ensures ∙ ap (option_map (λ b. body_view b.now)) c.in_default.is)
    (c.len-count.ensures.len ∙ ap length c.classes.ensures) c.in_ok-walk.ensures

pub loop-step-preserved : goal.loop-step-preserved
loop-step-preserved c =
    lacking_on c.args.rules.now (subst AreSound c.classes.ensures c.len-count.ensures.sound) c.args.class
    c.args.attribute c.loop-step.step c.in-Some-next_pending.next c.next_pending.result _ _ _ _ _ _
    c.loop-step.invariant c.next_pending.ensures.met c.next_pending.ensures.pending c.in-Some-next_pending.is
    (goes_on c.in_ok-lacks.lacks c.args.rules.now c.args.attribute c.in-Some-next_pending.next
    c.next_pending.new.self c.looks_at.new.walk c.if-lacks.false c.in_ok-lacks.ensures)

pub returns-in_default-next_pending : goal.returns-in_default-next_pending
returns-in_default-next_pending c =
    lacking_stops c.args.rules.now (subst AreSound c.classes.ensures c.len-count.ensures.sound) c.args.class
    c.args.attribute c.loop-step.step c.next_pending.result _ _ c.loop-step.invariant c.in_default-next_pending.is
    c.next_pending.ensures.none

pub returns-then-lacks : goal.returns-then-lacks
returns-then-lacks c =
    lacking_found c.args.rules.now c.args.class c.args.attribute c.loop-step.step c.in-Some-next_pending.next
    c.next_pending.result _ _ _ c.loop-step.invariant c.next_pending.ensures.pending c.in-Some-next_pending.is
    (found c.in_ok-lacks.lacks c.args.rules.now c.args.attribute c.in-Some-next_pending.next c.next_pending.new.self c.looks_at.new.walk c.if-lacks.true c.in_ok-lacks.ensures)

pub returns : goal.returns
returns c =
    lacking_out c.args.rules.now (subst AreSound c.classes.ensures c.len-count.ensures.sound) c.args.class c.args.attribute c.loop-step.step _ _ c.loop-step.invariant
    (omega (arith, c.len-count.ensures.len, ap length c.classes.ensures, c.loop-step-test.false, c.loop-step.auto))
