use Rattle.std.proofs.Common.{refl}
use Rattle.std.specs.Fmt.{digits}
use Rattle.at_model.specs.Classes.{chain}
use Rattle.at_model.specs.Names.{reserved_words}
use Rattle.at_model.proofs.turn_cases.turns_as_text.Goals as goal

pub returns-clause-post : goal.returns-clause-post
unfolding chain digits reserved_words
returns-clause-post c = refl

pub returns-clause-wait : goal.returns-clause-wait
unfolding chain digits reserved_words
returns-clause-wait c = refl

pub returns-clause-opened : goal.returns-clause-opened
unfolding chain digits reserved_words
returns-clause-opened c = refl

pub returns-clause-question : goal.returns-clause-question
unfolding chain digits reserved_words
returns-clause-question c = refl

pub returns-clause-value : goal.returns-clause-value
unfolding chain digits reserved_words
returns-clause-value c = refl

pub returns-clause-refused : goal.returns-clause-refused
unfolding chain digits reserved_words
returns-clause-refused c = refl

pub returns-clause-circle : goal.returns-clause-circle
unfolding chain digits reserved_words
returns-clause-circle c = refl

pub returns-clause-memory : goal.returns-clause-memory
unfolding chain digits reserved_words
returns-clause-memory c = refl

pub returns-clause-longest : goal.returns-clause-longest
unfolding chain digits reserved_words
returns-clause-longest c = refl
