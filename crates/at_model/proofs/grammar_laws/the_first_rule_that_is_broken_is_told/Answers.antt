use Rattle.at_model.proofs.GrammarFaults.{told}
use Rattle.at_model.proofs.grammar_laws.the_first_rule_that_is_broken_is_told.Goals as goal

pub returns : goal.returns
returns c = told
