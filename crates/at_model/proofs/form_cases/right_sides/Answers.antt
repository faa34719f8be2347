use Rattle.std.proofs.Common.{refl}
use Rattle.std.specs.Fmt.{digits}
use Rattle.at_model.specs.Classes.{chain}
use Rattle.at_model.proofs.form_cases.right_sides.Goals as goal

pub returns-clause-and_true : goal.returns-clause-and_true
unfolding chain digits
returns-clause-and_true c = refl

pub returns-clause-and_false : goal.returns-clause-and_false
unfolding chain digits
returns-clause-and_false c = refl

pub returns-clause-and_fault : goal.returns-clause-and_fault
unfolding chain digits
returns-clause-and_fault c = refl

pub returns-clause-and_decided : goal.returns-clause-and_decided
unfolding chain digits
returns-clause-and_decided c = refl

pub returns-clause-or_true : goal.returns-clause-or_true
unfolding chain digits
returns-clause-or_true c = refl

pub returns-clause-or_false : goal.returns-clause-or_false
unfolding chain digits
returns-clause-or_false c = refl

pub returns-clause-otherwise : goal.returns-clause-otherwise
unfolding chain digits
returns-clause-otherwise c = refl
