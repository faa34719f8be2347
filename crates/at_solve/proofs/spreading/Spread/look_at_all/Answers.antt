use Rattle.std.proofs.Common.{◌∙◌, arith, sym, length, ◌+◌}
use Rattle.at_model.specs.Meaning.{Among}
use Rattle.std.specs.Prelude.{drop}
use Rattle.at_solve.proofs.Looking.{looked}
use Rattle.at_solve.proofs.UserLemmas.{first_or}
use Rattle.at_solve.proofs.spreading.Spread.look_at_all.Goals as goal

pub loop-user-preserved : goal.loop-user-preserved
loop-user-preserved c = record {
  spreads = λ h. looked c.args.system.now _ _ _ _ _ c.in_ok-look_at.ensures.looked (λ u. Among u (drop c.loop-user.user-index c.args.users.now)) (λ u. Among u (drop (c.loop-user.user-index + 1) c.args.users.now)) (first_or c.args.users.now c.loop-user.user-index _) (c.loop-user.invariant.spreads h);
  fewer = omega (arith, c.look_at.ensures.fewer, c.loop-user.invariant.fewer);
}
