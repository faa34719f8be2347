use Rattle.at_model.proofs.LineRefused.{told_first}
use Rattle.at_model.proofs.refusal_laws.a_line_is_refused_for_its_first_reason.Goals as goal

pub returns-clause-refused : goal.returns-clause-refused
returns-clause-refused c = λ rules s l. (told_first rules s l).0

pub returns-clause-accepted : goal.returns-clause-accepted
returns-clause-accepted c = λ rules s l. (told_first rules s l).1
