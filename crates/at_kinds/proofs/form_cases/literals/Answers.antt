use Rattle.std.proofs.Common.{refl}
use Rattle.at_model.specs.Classes.{chain}
use Rattle.at_kinds.proofs.form_cases.literals.Goals as goal

pub returns-clause-number : goal.returns-clause-number
unfolding chain
returns-clause-number c = refl

pub returns-clause-negative : goal.returns-clause-negative
unfolding chain
returns-clause-negative c = refl

pub returns-clause-text : goal.returns-clause-text
unfolding chain
returns-clause-text c = refl

pub returns-clause-yes : goal.returns-clause-yes
unfolding chain
returns-clause-yes c = refl

pub returns-clause-no : goal.returns-clause-no
unfolding chain
returns-clause-no c = refl

pub returns-clause-null : goal.returns-clause-null
unfolding chain
returns-clause-null c = refl

pub returns-clause-this : goal.returns-clause-this
unfolding chain
returns-clause-this c = refl

pub returns-clause-parens : goal.returns-clause-parens
unfolding chain
returns-clause-parens c = refl
