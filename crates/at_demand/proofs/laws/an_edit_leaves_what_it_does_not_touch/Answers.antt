use Rattle.at_demand.proofs.of_keeping.CalledLemmas.{keeps_edited}
use Rattle.at_demand.proofs.laws.an_edit_leaves_what_it_does_not_touch.Goals as goal

pub returns : goal.returns
returns c = λ rules old new e t idle ok accepted done before later right leaves state same w. keeps_edited rules old new e t idle ok accepted done before later right leaves state same w
