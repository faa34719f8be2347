use Rattle.at_model.proofs.Reached.{in_sees}
use Rattle.at_model.proofs.ReadsSeen.{comes_to, reads_exact, demands_exact}
use Rattle.at_model.proofs.evaluation_laws.a_try_reads_what_is_seen.Goals as goal

pub returns-clause-some : goal.returns-clause-some
returns-clause-some c = λ look equation known i l right. in_sees look equation known right (equation i) l

pub returns-clause-all : goal.returns-clause-all
returns-clause-all c = λ look equation known i l right ended. reads_exact look equation known right (equation i) ended l

pub returns-clause-demanded : goal.returns-clause-demanded
returns-clause-demanded c = λ look equation known i j right. comes_to look equation known right (equation i) j

pub returns-clause-each : goal.returns-clause-each
returns-clause-each c = λ look equation known i j right ended. demands_exact look equation known right (equation i) ended j
