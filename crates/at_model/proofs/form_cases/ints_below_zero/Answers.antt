use Rattle.std.proofs.Common.{refl}
use Rattle.std.specs.Fmt.{digits}
use Rattle.at_model.specs.Classes.{chain}
use Rattle.at_model.proofs.form_cases.ints_below_zero.Goals as goal

pub returns-clause-dividend : goal.returns-clause-dividend
unfolding chain digits
returns-clause-dividend c = refl

pub returns-clause-divisor : goal.returns-clause-divisor
unfolding chain digits
returns-clause-divisor c = refl

pub returns-clause-both : goal.returns-clause-both
unfolding chain digits
returns-clause-both c = refl

pub returns-clause-nothing : goal.returns-clause-nothing
unfolding chain digits
returns-clause-nothing c = refl

pub returns-clause-rest_of_dividend : goal.returns-clause-rest_of_dividend
unfolding chain digits
returns-clause-rest_of_dividend c = refl

pub returns-clause-rest_of_divisor : goal.returns-clause-rest_of_divisor
unfolding chain digits
returns-clause-rest_of_divisor c = refl

pub returns-clause-rest_of_both : goal.returns-clause-rest_of_both
unfolding chain digits
returns-clause-rest_of_both c = refl
