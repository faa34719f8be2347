use Rattle.at_model.proofs.of_formulas.FormulasTogether.{told_of_kind}
use Rattle.at_model.proofs.typing_laws.a_line_is_told_a_value_of_its_kind.Goals as goal

pub returns : goal.returns
returns c = told_of_kind
