use Rattle.std.proofs.Common.{refl}
use Rattle.at_model.specs.Classes.{chain}
use Rattle.at_model.proofs.forms.arithmetic.Goals as goal

pub returns-clause-toward_zero : goal.returns-clause-toward_zero
unfolding chain
returns-clause-toward_zero c = refl

pub returns-clause-sign : goal.returns-clause-sign
unfolding chain
returns-clause-sign c = refl

pub returns-clause-least : goal.returns-clause-least
unfolding chain
returns-clause-least c = refl

pub returns-clause-nothing_left : goal.returns-clause-nothing_left
unfolding chain
returns-clause-nothing_left c = refl

pub returns-clause-negated : goal.returns-clause-negated
unfolding chain
returns-clause-negated c = refl

pub returns-clause-product : goal.returns-clause-product
unfolding chain
returns-clause-product c = refl

pub returns-clause-difference : goal.returns-clause-difference
unfolding chain
returns-clause-difference c = refl

pub returns-clause-no_remainder : goal.returns-clause-no_remainder
unfolding chain
returns-clause-no_remainder c = refl
