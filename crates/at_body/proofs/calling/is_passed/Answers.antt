use Rattle.std.proofs.Common.{◌≡◌, ◌+◌, ◌-◌, ap, arith, eqb-true}
use Rattle.at_model.specs.Bodies.{Name}
use Rattle.at_body.proofs.calling.is_passed.Goals as goal

pub returns-else-position-bound : goal.returns-else-position-bound
returns-else-position-bound c = λ h.
    let same : c.in-Name.position - c.args.bound ≡ c.args.index = eqb-true (c.in-Name.position - c.args.bound) c.args.index h in
    let there : c.in-Name.position ≡ c.args.bound + c.args.index = omega (arith, same) in
    rw c.in-Name.is (ap Name there)
