use Rattle.std.proofs.Common.{◌∙◌, arith, sym, length, ◌≤◌, ◌+◌}
use Rattle.at_solve.proofs.Looking.{begun, looked, none_left}
use Rattle.at_solve.proofs.UserLemmas.{from_or}
use Rattle.at_solve.proofs.spreading.Spread.new.Goals as goal

pub loop-position-preserved : goal.loop-position-preserved
loop-position-preserved c = looked c.args.system.now _ _ _ _ _ c.in_ok-look_at.ensures.looked (λ u. c.loop-position.position ≤ u) (λ u. c.loop-position.position + 1 ≤ u) (from_or c.loop-position.position) c.loop-position.invariant

pub returns : goal.returns
returns c = none_left c.args.system.now (λ u. c.loop-position.position ≤ u) _ _ (λ u less from. omega (arith, less, from, c.loop-position-test.false, c.loop-position.auto)) c.loop-position.invariant
