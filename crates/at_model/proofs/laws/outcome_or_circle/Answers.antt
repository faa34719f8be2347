use Rattle.at_model.proofs.Outcomes.{not_both}
use Rattle.at_model.proofs.laws.outcome_or_circle.Goals as goal

pub returns : goal.returns
returns c = not_both
