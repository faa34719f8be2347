use Rattle.at_rules.proofs.Guessed.{if_none}
use Rattle.at_rules.proofs.rules.number_named.Goals as goal

pub returns-in-None-clause-found : goal.returns-in-None-clause-found
returns-in-None-clause-found c = if_none c.number_of.result _ c.number_of.ensures.found
