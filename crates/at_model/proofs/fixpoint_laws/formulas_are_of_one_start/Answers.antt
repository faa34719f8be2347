use Rattle.at_model.specs.Paths.{node_eq}
use Rattle.at_model.proofs.of_formulas.StartsKept.{of_one_start}
use Rattle.at_model.proofs.fixpoint_laws.formulas_are_of_one_start.Goals as goal

pub returns : goal.returns
returns c look rules = of_one_start look rules node_eq
