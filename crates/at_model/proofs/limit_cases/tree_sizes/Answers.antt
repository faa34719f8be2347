use Rattle.std.proofs.Common.{◌≡◌, Bool, true, false, ◌&&◌, nat_le, refl}
use Rattle.at_model.specs.Trees.{nodes}
use Rattle.at_model.specs.Edits.{tokens_short}
use Rattle.at_model.proofs.limit_cases.tree_sizes.Goals as goal

neither : (a b : Bool) → (a && false && b) ≡ false
neither true b = refl
neither false b = refl

pub returns-clause-largest : goal.returns-clause-largest
returns-clause-largest c = λ t n d s. rw (n, d, s) refl

pub returns-clause-too_many : goal.returns-clause-too_many
returns-clause-too_many c = λ t n. rw n refl

pub returns-clause-too_deep : goal.returns-clause-too_deep
returns-clause-too_deep c = λ t d. rw d (neither (nat_le (nodes t) 16777216) (tokens_short t))

pub returns-clause-usual : goal.returns-clause-usual
returns-clause-usual c = λ t n d s. rw (n, d, s) refl

pub returns-clause-one_too_many : goal.returns-clause-one_too_many
returns-clause-one_too_many c = λ t n. rw n refl

pub returns-clause-never_more : goal.returns-clause-never_more
returns-clause-never_more c = λ t n. rw n refl
