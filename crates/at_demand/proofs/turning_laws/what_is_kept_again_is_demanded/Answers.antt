use Rattle.std.proofs.Common.{[]}
use Rattle.at_evaluate.proofs.of_traces.Settled.{settled_demanded}
use Rattle.at_demand.proofs.turning_laws.what_is_kept_again_is_demanded.Goals as goal

pub returns : goal.returns
returns c = λ rules s idle m q n old new justified known last steps.
    settled_demanded rules s idle m justified q n old new [] steps known last
