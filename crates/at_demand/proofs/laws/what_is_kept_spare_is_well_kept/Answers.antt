use Rattle.at_demand.proofs.of_keeping.CalledLemmas.{well_kept}
use Rattle.at_demand.proofs.laws.what_is_kept_spare_is_well_kept.Goals as goal

pub returns : goal.returns
returns c = λ rules s idle entries right spare. well_kept rules s idle entries right spare
