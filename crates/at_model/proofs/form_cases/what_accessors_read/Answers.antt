use Rattle.std.proofs.Common.{refl}
use Rattle.std.specs.Fmt.{digits}
use Rattle.at_model.specs.Classes.{chain}
use Rattle.at_model.proofs.form_cases.what_accessors_read.Goals as goal

pub returns-clause-element : goal.returns-clause-element
unfolding chain digits
returns-clause-element c = refl

pub returns-clause-beyond : goal.returns-clause-beyond
unfolding chain digits
returns-clause-beyond c = refl

pub returns-clause-count : goal.returns-clause-count
unfolding chain digits
returns-clause-count c = refl

pub returns-clause-has : goal.returns-clause-has
unfolding chain digits
returns-clause-has c = refl

pub returns-clause-has_none : goal.returns-clause-has_none
unfolding chain digits
returns-clause-has_none c = refl

pub returns-clause-child : goal.returns-clause-child
unfolding chain digits
returns-clause-child c = refl

pub returns-clause-absent : goal.returns-clause-absent
unfolding chain digits
returns-clause-absent c = refl

pub returns-clause-token : goal.returns-clause-token
unfolding chain digits
returns-clause-token c = refl

pub returns-clause-null : goal.returns-clause-null
unfolding chain digits
returns-clause-null c = refl
