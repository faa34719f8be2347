use Rattle.std.proofs.Common.{refl}
use Rattle.at_model.specs.Classes.{chain}
use Rattle.at_model.proofs.machine_cases.a_mark_is_asked_where_it_is.Goals as goal

pub returns-clause-own : goal.returns-clause-own
unfolding chain
returns-clause-own c = refl
