use Rattle.at_model.proofs.of_formulas.Heights.{higher}
use Rattle.at_model.proofs.fixpoint_laws.more_depth.Goals as goal

pub returns : goal.returns
returns c look forms n more i o h = higher look forms n more i o h
