use Rattle.std.proofs.Common.{refl}
use Rattle.at_model.proofs.edit_cases.what_an_optional_touches.Goals as goal

pub returns-clause-filled : goal.returns-clause-filled
returns-clause-filled c = refl

pub returns-clause-unfilled : goal.returns-clause-unfilled
returns-clause-unfilled c = refl

pub returns-clause-emptied : goal.returns-clause-emptied
returns-clause-emptied c = refl

pub returns-clause-unemptied : goal.returns-clause-unemptied
returns-clause-unemptied c = refl
