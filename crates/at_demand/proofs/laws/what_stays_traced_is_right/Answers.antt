use Rattle.at_store.specs.Shown.{contents}
use Rattle.at_evaluate.proofs.of_traces.Justified.{stay_justified, stay_there}
use Rattle.at_demand.proofs.laws.what_stays_traced_is_right.Goals as goal

pub returns-clause-justified : goal.returns-clause-justified
returns-clause-justified c = λ rules s before later stay right. stay_justified rules (contents s) before later stay right

pub returns-clause-there : goal.returns-clause-there
returns-clause-there c = λ s before later stay there. stay_there s before later stay there
