use Rattle.at_model.proofs.of_formulas.RingCases.{j_true, j_false, self_false, top_true}
use Rattle.at_model.proofs.fixpoint_cases.values_of_rings.Goals as goal

pub returns-clause-with_c : goal.returns-clause-with_c
returns-clause-with_c c = j_true

pub returns-clause-without_c : goal.returns-clause-without_c
returns-clause-without_c c = j_false

pub returns-clause-from_false : goal.returns-clause-from_false
returns-clause-from_false c = self_false

pub returns-clause-from_true : goal.returns-clause-from_true
returns-clause-from_true c = top_true
