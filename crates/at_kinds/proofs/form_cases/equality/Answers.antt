use Rattle.std.proofs.Common.{refl}
use Rattle.at_model.specs.Classes.{chain}
use Rattle.at_kinds.proofs.form_cases.equality.Goals as goal

pub returns-clause-same : goal.returns-clause-same
unfolding chain
returns-clause-same c = refl

pub returns-clause-differs : goal.returns-clause-differs
unfolding chain
returns-clause-differs c = refl

pub returns-clause-truths : goal.returns-clause-truths
unfolding chain
returns-clause-truths c = refl

pub returns-clause-nodes : goal.returns-clause-nodes
unfolding chain
returns-clause-nodes c = refl

pub returns-clause-null : goal.returns-clause-null
unfolding chain
returns-clause-null c = refl
