use Rattle.at_demand.proofs.of_traces.Untouched.{remembered_later}
use Rattle.at_demand.proofs.laws.what_can_be_kept_again_stays_right.Goals as goal

pub returns : goal.returns
returns c = λ rules old new e t idle ok accepted done before later right flushes.
    remembered_later rules old new e t idle ok accepted done before later right flushes
