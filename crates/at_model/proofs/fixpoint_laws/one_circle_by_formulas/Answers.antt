use Rattle.at_model.proofs.of_formulas.ClosedOnce.{closes_at_one}
use Rattle.at_model.proofs.fixpoint_laws.one_circle_by_formulas.Goals as goal

pub returns : goal.returns
returns c = closes_at_one
