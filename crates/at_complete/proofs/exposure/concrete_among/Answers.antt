use Rattle.std.proofs.Common.{arith, ap, ◌∙◌, ◌≡◌, subst, length, [], Some, None}
use Rattle.std.specs.Prelude.{false, ◌&&◌, nat_lt, replicate, if◌then◌else◌}
use Rattle.at_complete.specs.Completing.{is_met_concrete}
use Rattle.at_complete.specs.Walks.{Meets}
use Rattle.at_complete.proofs.Exposing.{picks_begin, picks_more, picked_all}
use Rattle.at_complete.proofs.exposure.concrete_among.Goals as goal

pub loop-position-init : goal.loop-position-init
loop-position-init c =
    picks_begin (is_met_concrete c.args.classes.now c.args.exposed.now.met.items) c.len-count.result
    (length c.args.classes.now) c.in_ok-walk.walk.met.items c.in_ok-walk.walk.pending.items c.len-count.ensures.len
    c.in_ok-walk.ensures.met c.in_ok-walk.ensures.pending

pub loop-position-preserved : goal.loop-position-preserved
loop-position-preserved c =
    picks_more c.args.classes.now c.args.exposed.now.met.items c.loop-position.position c.if_concrete.result _ _ _ _ _ _
    (c.if_concrete.ensures ∙ ap (λ k. if is_met_concrete c.args.classes.now c.args.exposed.now.met.items k then Some k else None) c.new-in-loop-position.ensures)
    c.loop-position.invariant c.in_ok-meet_some.ensures

pub returns : goal.returns
returns c =
    let full : c.loop-position.position ≡ length c.args.classes.now = omega (arith, c.len-count.ensures.len, c.loop-position-test.false, c.loop-position.auto) in
    picked_all c.args.classes.now c.args.exposed.now.met.items _ _ _ _
    (subst (λ n. Meets (λ e. nat_lt e n && is_met_concrete c.args.classes.now c.args.exposed.now.met.items e) (replicate
    (length c.args.classes.now) false) c.loop-position.walk.met.items [] c.loop-position.walk.pending.items) full
    c.loop-position.invariant)
