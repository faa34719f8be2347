use Rattle.std.proofs.Common.{refl}
use Rattle.at_model.specs.Classes.{chain}
use Rattle.at_kinds.proofs.form_cases.computed_arguments.Goals as goal

pub returns-clause-refused : goal.returns-clause-refused
unfolding chain
returns-clause-refused c = refl

pub returns-clause-text : goal.returns-clause-text
unfolding chain
returns-clause-text c = refl

pub returns-clause-given : goal.returns-clause-given
unfolding chain
returns-clause-given c = refl

pub returns-clause-int : goal.returns-clause-int
unfolding chain
returns-clause-int c = refl

pub returns-clause-literal : goal.returns-clause-literal
unfolding chain
returns-clause-literal c = refl

pub returns-clause-other : goal.returns-clause-other
unfolding chain
returns-clause-other c = refl
