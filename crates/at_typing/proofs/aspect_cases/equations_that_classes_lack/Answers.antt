use Rattle.at_typing.proofs.of_aspects.LackingSamples.{own_lacked, inherited_lacked, nothing_lacked}
use Rattle.at_typing.proofs.aspect_cases.equations_that_classes_lack.Goals as goal

pub returns-clause-own : goal.returns-clause-own
returns-clause-own c = own_lacked

pub returns-clause-above : goal.returns-clause-above
returns-clause-above c = inherited_lacked

pub returns-clause-accepted : goal.returns-clause-accepted
returns-clause-accepted c = nothing_lacked
