use Rattle.std.proofs.Common.{◌≡◌, ◌+◌, ℕ, arith, sym, subst, take}
use Rattle.std.specs.Map.{keys_of}
use Rattle.at_rules.specs.Holding.{has_equation, is_held}
use Rattle.at_rules.proofs.HoldingLemmas.{held_next, not_there}
use Rattle.at_rules.proofs.holders.held_in.Goals as goal
use Rattle.at_rules.proofs.holders.held_in.Goals.{in-Some+in_ok-hold, in_default}

pub loop-position-preserved : goal.loop-position-preserved
loop-position-preserved c =
    let es = c.args.inherited.now.entries in
    let i = c.loop-position.position in
    elim c.match-get_index.branch [
      | in-Some+in_ok-hold w ↦ subst (λ held. (c n : ℕ) → has_equation (take (i + 1) (keys_of es)) c n ≡ is_held (keys_of held.entries) c n) (sym w.held-is) (held_next es i _ (keys_of c.loop-position.held.entries) _ (sym w.in-Some.ensures.entry) c.loop-position.invariant w.in_ok-hold.ensures)
      | in_default w ↦ absurd (not_there es i (omega (arith, c.loop-position-test.true, c.len-position-end.ensures.len)) (sym w.in_default.ensures.entry))
    ]
