use Rattle.std.proofs.Common.{refl}
use Rattle.std.specs.Fmt.{digits}
use Rattle.at_model.specs.Classes.{chain}
use Rattle.at_model.proofs.edit_cases.edits_that_are_refused.Goals as goal

pub returns-clause-set : goal.returns-clause-set
unfolding chain digits
returns-clause-set c = refl

pub returns-clause-put : goal.returns-clause-put
unfolding chain digits
returns-clause-put c = refl

pub returns-clause-insert : goal.returns-clause-insert
unfolding chain digits
returns-clause-insert c = refl

pub returns-clause-token : goal.returns-clause-token
unfolding chain digits
returns-clause-token c = refl

pub returns-clause-component : goal.returns-clause-component
unfolding chain digits
returns-clause-component c = refl

pub returns-clause-index : goal.returns-clause-index
unfolding chain digits
returns-clause-index c = refl

pub returns-clause-taken : goal.returns-clause-taken
unfolding chain digits
returns-clause-taken c = refl

pub returns-clause-fixed : goal.returns-clause-fixed
unfolding chain digits
returns-clause-fixed c = refl
