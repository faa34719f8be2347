use Rattle.at_model.proofs.of_formulas.FormulasTogether.{demanded}
use Rattle.at_model.proofs.of_typing.TypedTogether.{own_there, source_there}
use Rattle.at_model.proofs.fixpoint_laws.no_equation_is_missing_by_formulas.Goals as goal

pub returns-clause-own : goal.returns-clause-own
returns-clause-own c rules ok t sound i j formed leads own u there =
    own_there rules ok t sound j (demanded rules ok t sound i formed j leads) own u there

pub returns-clause-inherited : goal.returns-clause-inherited
returns-clause-inherited c rules ok t sound i j formed leads inherited =
    source_there rules ok t sound j (demanded rules ok t sound i formed j leads) inherited
