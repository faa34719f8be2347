use Rattle.at_model.proofs.WithinTree.{value_stays, demands_stay, support_stays}
use Rattle.at_model.proofs.laws.within_the_tree.Goals as goal

pub returns-clause-value : goal.returns-clause-value
returns-clause-value c = value_stays

pub returns-clause-demands : goal.returns-clause-demands
returns-clause-demands c = demands_stay

pub returns-clause-support : goal.returns-clause-support
returns-clause-support c = support_stays
