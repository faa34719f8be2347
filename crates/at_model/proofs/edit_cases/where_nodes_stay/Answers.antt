use Rattle.std.proofs.Common.{refl}
use Rattle.at_model.proofs.edit_cases.where_nodes_stay.Goals as goal

pub returns-clause-replaced : goal.returns-clause-replaced
returns-clause-replaced c = refl

pub returns-clause-below : goal.returns-clause-below
returns-clause-below c = refl

pub returns-clause-above : goal.returns-clause-above
returns-clause-above c = refl

pub returns-clause-root : goal.returns-clause-root
returns-clause-root c = refl

pub returns-clause-whole : goal.returns-clause-whole
returns-clause-whole c = refl

pub returns-clause-filled : goal.returns-clause-filled
returns-clause-filled c = refl

pub returns-clause-emptied : goal.returns-clause-emptied
returns-clause-emptied c = refl

pub returns-clause-before : goal.returns-clause-before
returns-clause-before c = refl

pub returns-clause-behind : goal.returns-clause-behind
returns-clause-behind c = refl

pub returns-clause-token : goal.returns-clause-token
returns-clause-token c = refl
