use Rattle.at_model.proofs.of_seeking.CirclesKept.{answers_shorter, answers_longer}
use Rattle.at_model.proofs.seeking_laws.what_is_shortened_means_the_same.Goals as goal

pub returns-clause-shorter : goal.returns-clause-shorter
returns-clause-shorter c = λ look equation also short. answers_shorter look equation also short

pub returns-clause-longer : goal.returns-clause-longer
returns-clause-longer c = λ look equation also short. answers_longer look equation also short
