use Rattle.std.proofs.Common.{refl}
use Rattle.at_start.proofs.overloaded_cases.overloaded_attributes.Goals as goal

pub returns-clause-apart : goal.returns-clause-apart
returns-clause-apart c = refl

pub returns-clause-accessors : goal.returns-clause-accessors
returns-clause-accessors c = refl
