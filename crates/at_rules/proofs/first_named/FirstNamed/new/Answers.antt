use Rattle.at_rules.proofs.FirstNaming.{none_noted}
use Rattle.at_rules.proofs.first_named.FirstNamed.new.Goals as goal

pub returns : goal.returns
returns c = none_noted _ c.new.ensures.empty
