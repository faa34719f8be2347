use Rattle.std.proofs.Common.{refl}
use Rattle.std.specs.Fmt.{digits}
use Rattle.at_model.specs.Classes.{chain}
use Rattle.at_model.specs.Names.{reserved_words}
use Rattle.at_model.proofs.turn_cases.what_is_not_posted.Goals as goal

pub returns-clause-stale : goal.returns-clause-stale
unfolding chain digits reserved_words
returns-clause-stale c = refl

pub returns-clause-mark : goal.returns-clause-mark
unfolding chain digits reserved_words
returns-clause-mark c = refl

pub returns-clause-hundred : goal.returns-clause-hundred
unfolding chain digits reserved_words
returns-clause-hundred c = refl

pub returns-clause-one_fewer : goal.returns-clause-one_fewer
unfolding chain digits reserved_words
returns-clause-one_fewer c = refl

pub returns-clause-other_session : goal.returns-clause-other_session
unfolding chain digits reserved_words
returns-clause-other_session c = refl

pub returns-clause-no_number : goal.returns-clause-no_number
unfolding chain digits reserved_words
returns-clause-no_number c = refl

pub returns-clause-last_number : goal.returns-clause-last_number
unfolding chain digits reserved_words
returns-clause-last_number c = refl

pub returns-clause-path : goal.returns-clause-path
unfolding chain digits reserved_words
returns-clause-path c = refl
