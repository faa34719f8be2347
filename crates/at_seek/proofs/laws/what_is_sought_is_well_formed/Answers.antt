use Rattle.at_seek.proofs.EquationsKept.{well_formed}
use Rattle.at_seek.proofs.laws.what_is_sought_is_well_formed.Goals as goal

pub returns : goal.returns
returns c = λ rules also sought formed. well_formed rules also sought formed
