use Rattle.std.proofs.Common.{◌≡◌, true}
use Rattle.at_model.proofs.of_machines.WellKept.{kept_well}
use Rattle.at_model.proofs.machine_laws.what_is_kept_stays_well_kept.Goals as goal

pub returns : goal.returns
returns c = λ rules s l kept. kept_well rules s l (λ i. kept i ≡ true)
