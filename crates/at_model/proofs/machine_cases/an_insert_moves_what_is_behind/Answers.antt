use Rattle.std.proofs.Common.{refl}
use Rattle.at_model.specs.Classes.{chain}
use Rattle.at_model.proofs.machine_cases.an_insert_moves_what_is_behind.Goals as goal

pub returns-clause-state : goal.returns-clause-state
unfolding chain
returns-clause-state c = refl
