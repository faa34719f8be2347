use Rattle.at_engine.proofs.of_keeping.Plain.{whole_plainly, worthy_plainly}
use Rattle.at_engine.proofs.laws.where_none_is_circular.Goals as goal

pub returns-clause-worthy : goal.returns-clause-worthy
returns-clause-worthy c = λ rules none look i a entries worthy. worthy_plainly rules none look i a entries worthy

pub returns-clause-whole : goal.returns-clause-whole
returns-clause-whole c = λ rules none wants. whole_plainly rules none wants
