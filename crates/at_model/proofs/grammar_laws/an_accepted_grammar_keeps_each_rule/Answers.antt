use Rattle.at_model.proofs.GrammarFaults.{accepted}
use Rattle.at_model.proofs.grammar_laws.an_accepted_grammar_keeps_each_rule.Goals as goal

pub returns : goal.returns
returns c = accepted
