use Rattle.at_model.proofs.SampleCircles.{statement_circle}
use Rattle.at_model.proofs.cases.circle.Goals as goal

pub returns : goal.returns
returns c = statement_circle
