use Rattle.at_model.proofs.Outcomes.{closes_at_one}
use Rattle.at_model.proofs.laws.one_circle.Goals as goal

pub returns : goal.returns
returns c = closes_at_one
