use Rattle.std.proofs.Common.{refl}
use Rattle.std.specs.Fmt.{digits}
use Rattle.at_model.specs.Classes.{chain}
use Rattle.at_model.proofs.form_cases.what_folds_read.Goals as goal

pub returns-clause-exists : goal.returns-clause-exists
unfolding chain digits
returns-clause-exists c = refl

pub returns-clause-further : goal.returns-clause-further
unfolding chain digits
returns-clause-further c = refl

pub returns-clause-first : goal.returns-clause-first
unfolding chain digits
returns-clause-first c = refl

pub returns-clause-sum : goal.returns-clause-sum
unfolding chain digits
returns-clause-sum c = refl

pub returns-clause-instance : goal.returns-clause-instance
unfolding chain digits
returns-clause-instance c = refl

pub returns-clause-cast : goal.returns-clause-cast
unfolding chain digits
returns-clause-cast c = refl

pub returns-clause-fault : goal.returns-clause-fault
unfolding chain digits
returns-clause-fault c = refl

pub returns-clause-arguments : goal.returns-clause-arguments
unfolding chain digits
returns-clause-arguments c = refl
