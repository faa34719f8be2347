use Rattle.std.proofs.Common.{refl}
use Rattle.at_model.specs.Classes.{chain}
use Rattle.at_model.proofs.machine_cases.a_stale_line.Goals as goal

pub returns-clause-current_edit : goal.returns-clause-current_edit
unfolding chain
returns-clause-current_edit c = refl
