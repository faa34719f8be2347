use Rattle.std.proofs.Common.{ap, refl}
use Rattle.std.specs.Prelude.{nat_le}
use Rattle.at_model.specs.Classes.{chain}
use Rattle.at_model.proofs.of_edits.Larger.{allowed_edit, large_edit}
use Rattle.at_model.proofs.limit_cases.sizes_of_edits.Goals as goal

pub returns-clause-largest : goal.returns-clause-largest
returns-clause-largest c =
    λ classes t u e made many. allowed_edit 16777216 classes t e u made (ap (λ n. nat_le n 16777216) many)

pub returns-clause-too_many : goal.returns-clause-too_many
returns-clause-too_many c =
    λ classes t u e made many. large_edit 16777215 classes t e u made (ap (λ n. nat_le n 16777215) many)

pub returns-clause-usual : goal.returns-clause-usual
returns-clause-usual c =
    λ classes t u e made many. allowed_edit 65536 classes t e u made (ap (λ n. nat_le n 65536) many)

pub returns-clause-one_too_many : goal.returns-clause-one_too_many
returns-clause-one_too_many c =
    λ classes t u e made many. large_edit 65536 classes t e u made (ap (λ n. nat_le n 65536) many)

pub returns-clause-nine : goal.returns-clause-nine
unfolding chain
returns-clause-nine c = refl

pub returns-clause-eight : goal.returns-clause-eight
unfolding chain
returns-clause-eight c = refl
