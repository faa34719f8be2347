use Rattle.std.proofs.Common.{refl}
use Rattle.at_model.specs.Classes.{chain}
use Rattle.at_model.proofs.list_cases.what_lists_read.Goals as goal

pub returns-clause-listed : goal.returns-clause-listed
unfolding chain
returns-clause-listed c = refl

pub returns-clause-children : goal.returns-clause-children
unfolding chain
returns-clause-children c = refl

pub returns-clause-parent : goal.returns-clause-parent
unfolding chain
returns-clause-parent c = refl

pub returns-clause-among : goal.returns-clause-among
unfolding chain
returns-clause-among c = refl

pub returns-clause-closed : goal.returns-clause-closed
unfolding chain
returns-clause-closed c = refl
