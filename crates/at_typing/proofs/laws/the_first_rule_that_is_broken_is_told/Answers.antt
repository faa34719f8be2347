use Rattle.at_typing.proofs.of_aspects.FaultsTold.{told}
use Rattle.at_typing.proofs.laws.the_first_rule_that_is_broken_is_told.Goals as goal

pub returns : goal.returns
returns c = told
