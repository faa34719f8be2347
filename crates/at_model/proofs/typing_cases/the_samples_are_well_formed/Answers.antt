use Rattle.at_model.proofs.SampleRules.{sum_well_formed, sum_tree_sound, calc_well_formed, calc_tree_sound}
use Rattle.at_model.proofs.typing_cases.the_samples_are_well_formed.Goals as goal

pub returns-clause-sum : goal.returns-clause-sum
returns-clause-sum c = sum_well_formed

pub returns-clause-sum_tree : goal.returns-clause-sum_tree
returns-clause-sum_tree c = sum_tree_sound

pub returns-clause-calc : goal.returns-clause-calc
returns-clause-calc c = calc_well_formed

pub returns-clause-calc_tree : goal.returns-clause-calc_tree
returns-clause-calc_tree c = calc_tree_sound
