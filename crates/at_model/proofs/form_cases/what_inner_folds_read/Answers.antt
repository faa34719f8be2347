use Rattle.std.proofs.Common.{refl}
use Rattle.std.specs.Fmt.{digits}
use Rattle.at_model.specs.Classes.{chain}
use Rattle.at_model.proofs.form_cases.what_inner_folds_read.Goals as goal

pub returns-clause-inner : goal.returns-clause-inner
unfolding chain digits
returns-clause-inner c = refl

pub returns-clause-behind : goal.returns-clause-behind
unfolding chain digits
returns-clause-behind c = refl

pub returns-clause-sum : goal.returns-clause-sum
unfolding chain digits
returns-clause-sum c = refl
