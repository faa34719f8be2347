use Rattle.at_model.proofs.of_formulas.WorthKeeping.{worth_by_equations}
use Rattle.at_model.proofs.sparing_laws.what_is_worth_keeping_by_equations.Goals as goal

pub returns : goal.returns
returns c = λ rules t q i none. worth_by_equations rules t q i none
