use Rattle.at_model.proofs.of_formulas.FaultsPlaced.{fault_place}
use Rattle.at_model.proofs.fixpoint_laws.a_fault_is_where_its_equation_fails_by_formulas.Goals as goal

pub returns : goal.returns
returns c = λ look forms q i f. fault_place look forms i f q
