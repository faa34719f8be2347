use Rattle.std.proofs.Common.{refl}
use Rattle.std.specs.Fmt.{digits}
use Rattle.at_model.specs.Classes.{chain}
use Rattle.at_model.proofs.form_cases.equality.Goals as goal

pub returns-clause-both_true : goal.returns-clause-both_true
unfolding chain digits
returns-clause-both_true c = refl

pub returns-clause-both_false : goal.returns-clause-both_false
unfolding chain digits
returns-clause-both_false c = refl

pub returns-clause-one_false : goal.returns-clause-one_false
unfolding chain digits
returns-clause-one_false c = refl

pub returns-clause-one_true : goal.returns-clause-one_true
unfolding chain digits
returns-clause-one_true c = refl

pub returns-clause-same_truths : goal.returns-clause-same_truths
unfolding chain digits
returns-clause-same_truths c = refl

pub returns-clause-ints : goal.returns-clause-ints
unfolding chain digits
returns-clause-ints c = refl

pub returns-clause-other_ints : goal.returns-clause-other_ints
unfolding chain digits
returns-clause-other_ints c = refl

pub returns-clause-nulls : goal.returns-clause-nulls
unfolding chain digits
returns-clause-nulls c = refl

pub returns-clause-null_and_node : goal.returns-clause-null_and_node
unfolding chain digits
returns-clause-null_and_node c = refl
