use Rattle.at_body.proofs.Few.{few}
use Rattle.at_body.proofs.folding.children.Goals as goal

pub returns-clause-few : goal.returns-clause-few
returns-clause-few c = few _ c.children.ensures.few
