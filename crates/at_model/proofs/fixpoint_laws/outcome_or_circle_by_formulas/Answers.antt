use Rattle.at_model.proofs.of_formulas.ClosedOnce.{not_both}
use Rattle.at_model.proofs.fixpoint_laws.outcome_or_circle_by_formulas.Goals as goal

pub returns : goal.returns
returns c = not_both
