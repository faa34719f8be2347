use Rattle.at_model.proofs.of_formulas.FormulasTogether.{demanded, listed, value_of_kind}
use Rattle.at_model.proofs.fixpoint_laws.formulas_keep_to_the_kinds.Goals as goal

pub returns-clause-demanded : goal.returns-clause-demanded
returns-clause-demanded c rules ok t sound i j formed l = demanded rules ok t sound i formed j l

pub returns-clause-listed : goal.returns-clause-listed
returns-clause-listed c rules ok t sound i j formed l = listed rules ok t sound i formed j l

pub returns-clause-value : goal.returns-clause-value
returns-clause-value c rules ok t sound i v formed h = value_of_kind rules ok t sound i formed v h
