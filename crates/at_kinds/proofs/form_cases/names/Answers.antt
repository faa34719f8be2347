use Rattle.std.proofs.Common.{refl}
use Rattle.at_model.specs.Classes.{chain}
use Rattle.at_kinds.proofs.form_cases.names.Goals as goal

pub returns-clause-first : goal.returns-clause-first
unfolding chain
returns-clause-first c = refl

pub returns-clause-second : goal.returns-clause-second
unfolding chain
returns-clause-second c = refl

pub returns-clause-index : goal.returns-clause-index
unfolding chain
returns-clause-index c = refl

pub returns-clause-unknown : goal.returns-clause-unknown
unfolding chain
returns-clause-unknown c = refl
