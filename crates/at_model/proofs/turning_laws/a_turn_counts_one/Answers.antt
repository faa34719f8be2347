use Rattle.std.proofs.Common.{refl, arith}
use Rattle.at_model.proofs.of_machines.Bounded.{one_turn}
use Rattle.at_model.proofs.turning_laws.a_turn_counts_one.Goals as goal

pub returns-clause-none : goal.returns-clause-none
returns-clause-none c = λ q. refl

pub returns-clause-one : goal.returns-clause-one
returns-clause-one c = λ look equation kept u new turned. let e = one_turn look equation kept u new turned in omega (arith, e)
