use Rattle.at_model.proofs.of_edits.CarriedInstances.{instance_carried, instance_there}
use Rattle.at_model.proofs.sparing_laws.what_is_not_touched_is_carried.Goals as goal

pub returns : goal.returns
returns c = λ rules t u e i ok made is free.
    let (j, like) = instance_carried rules t u e made i is free in
    (j, like, instance_there rules t u e made ok i j like is)
