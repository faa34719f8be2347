use Rattle.at_model.proofs.of_searching.Deciding.{demand_decided}
use Rattle.at_demand.proofs.turning_laws.what_is_looked_at_is_decided.Goals as goal

pub returns : goal.returns
returns c = λ look forms q k i j circle l r. demand_decided look forms q k i j circle l r
