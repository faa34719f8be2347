use Rattle.at_model.proofs.FaultPlaces.{fault_place}
use Rattle.at_model.proofs.evaluation_laws.a_fault_is_where_its_equation_fails.Goals as goal

pub returns : goal.returns
returns c = λ look equation q i f. fault_place look equation i f q
