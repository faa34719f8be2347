use Rattle.at_model.proofs.of_formulas.UniqueOutcomes.{once}
use Rattle.at_model.proofs.fixpoint_laws.one_outcome_by_formulas.Goals as goal

pub returns : goal.returns
returns c = once
