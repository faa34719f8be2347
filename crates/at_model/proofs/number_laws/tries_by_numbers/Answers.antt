use Rattle.at_model.proofs.Tries.{try_right}
use Rattle.at_model.proofs.ReadsSeen.{reads_exact, demands_exact}
use Rattle.at_model.proofs.number_laws.tries_by_numbers.Goals as goal

pub returns-clause-right : goal.returns-clause-right
returns-clause-right c = try_right

pub returns-clause-seen : goal.returns-clause-seen
returns-clause-seen c = λ look equation known i l right ended. reads_exact look equation known right (equation i) ended l

pub returns-clause-demanded : goal.returns-clause-demanded
returns-clause-demanded c = λ look equation known i j right ended. demands_exact look equation known right (equation i) ended j
