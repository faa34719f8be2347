use Rattle.std.proofs.Common.{refl}
use Rattle.at_model.proofs.edit_cases.what_a_token_touches.Goals as goal

pub returns-clause-itself : goal.returns-clause-itself
returns-clause-itself c = refl

pub returns-clause-others : goal.returns-clause-others
returns-clause-others c = refl
