use Rattle.std.proofs.Common.{refl}
use Rattle.std.specs.Fmt.{digits}
use Rattle.at_model.proofs.machine_cases.replies_as_text.Goals as goal

pub returns-clause-done : goal.returns-clause-done
unfolding digits
returns-clause-done c = refl

pub returns-clause-value : goal.returns-clause-value
unfolding digits
returns-clause-value c = refl

pub returns-clause-term : goal.returns-clause-term
unfolding digits
returns-clause-term c = refl

pub returns-clause-fault : goal.returns-clause-fault
unfolding digits
returns-clause-fault c = refl

pub returns-clause-circle : goal.returns-clause-circle
unfolding digits
returns-clause-circle c = refl

pub returns-clause-stale : goal.returns-clause-stale
unfolding digits
returns-clause-stale c = refl

pub returns-clause-syntax : goal.returns-clause-syntax
unfolding digits
returns-clause-syntax c = refl

pub returns-clause-memory : goal.returns-clause-memory
unfolding digits
returns-clause-memory c = refl
