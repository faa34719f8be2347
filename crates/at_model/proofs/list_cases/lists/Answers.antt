use Rattle.std.proofs.Common.{refl}
use Rattle.at_model.specs.Classes.{chain}
use Rattle.at_model.proofs.list_cases.lists.Goals as goal

pub returns-clause-listed : goal.returns-clause-listed
unfolding chain
returns-clause-listed c = refl

pub returns-clause-alone : goal.returns-clause-alone
unfolding chain
returns-clause-alone c = refl

pub returns-clause-none : goal.returns-clause-none
unfolding chain
returns-clause-none c = refl

pub returns-clause-once : goal.returns-clause-once
unfolding chain
returns-clause-once c = refl

pub returns-clause-among : goal.returns-clause-among
unfolding chain
returns-clause-among c = refl

pub returns-clause-not_among : goal.returns-clause-not_among
unfolding chain
returns-clause-not_among c = refl

pub returns-clause-no_null : goal.returns-clause-no_null
unfolding chain
returns-clause-no_null c = refl

pub returns-clause-chosen : goal.returns-clause-chosen
unfolding chain
returns-clause-chosen c = refl

pub returns-clause-any : goal.returns-clause-any
unfolding chain
returns-clause-any c = refl

pub returns-clause-first : goal.returns-clause-first
unfolding chain
returns-clause-first c = refl

pub returns-clause-size : goal.returns-clause-size
unfolding chain
returns-clause-size c = refl

pub returns-clause-up : goal.returns-clause-up
unfolding chain
returns-clause-up c = refl

pub returns-clause-down : goal.returns-clause-down
unfolding chain
returns-clause-down c = refl

pub returns-clause-null : goal.returns-clause-null
unfolding chain
returns-clause-null c = refl
