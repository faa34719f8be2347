use Rattle.at_model.proofs.of_typing.TypedTogether.{classes_hierarchy, state_sound}
use Rattle.at_model.proofs.typing_laws.what_is_served_is_sound.Goals as goal

pub returns-clause-classes : goal.returns-clause-classes
returns-clause-classes c = classes_hierarchy

pub returns-clause-tree : goal.returns-clause-tree
returns-clause-tree c = state_sound
