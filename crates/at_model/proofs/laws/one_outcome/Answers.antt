use Rattle.at_model.proofs.Outcomes.{once}
use Rattle.at_model.proofs.laws.one_outcome.Goals as goal

pub returns : goal.returns
returns c = once
