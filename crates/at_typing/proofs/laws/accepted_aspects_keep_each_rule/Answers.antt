use Rattle.at_typing.proofs.of_aspects.FaultsTold.{accepted}
use Rattle.at_typing.proofs.laws.accepted_aspects_keep_each_rule.Goals as goal

pub returns : goal.returns
returns c = accepted
