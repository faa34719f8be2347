use Rattle.at_model.proofs.of_formulas.FormulasTogether.{spread}
use Rattle.at_model.proofs.fixpoint_laws.values_spread_along_formulas.Goals as goal

pub returns : goal.returns
returns c rules ok t sound i j v formed h l = spread rules ok t sound i j v formed h l
