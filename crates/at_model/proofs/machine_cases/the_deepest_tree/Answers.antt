use Rattle.std.proofs.Common.{refl}
use Rattle.at_model.specs.Classes.{chain}
use Rattle.at_model.proofs.machine_cases.the_deepest_tree.Goals as goal

pub returns-clause-too_deep : goal.returns-clause-too_deep
unfolding chain
returns-clause-too_deep c = refl

pub returns-clause-deepest : goal.returns-clause-deepest
unfolding chain
returns-clause-deepest c = refl
