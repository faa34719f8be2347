use Rattle.std.proofs.Common.{refl}
use Rattle.at_model.specs.Classes.{chain}
use Rattle.at_model.proofs.fixed_cases.constants_come_with_their_node.Goals as goal

pub returns-clause-shaped : goal.returns-clause-shaped
unfolding chain
returns-clause-shaped c = refl

pub returns-clause-written : goal.returns-clause-written
unfolding chain
returns-clause-written c = refl
