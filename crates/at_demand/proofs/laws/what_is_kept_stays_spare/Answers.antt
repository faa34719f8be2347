use Rattle.at_demand.proofs.of_keeping.SparedLemmas.{kept_spare}
use Rattle.at_demand.proofs.laws.what_is_kept_stays_spare.Goals as goal

pub returns : goal.returns
returns c = λ rules old new e t idle ok accepted done before later. kept_spare rules old new e t idle ok accepted done before later
