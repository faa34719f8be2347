use Rattle.std.proofs.Common.{refl}
use Rattle.std.specs.Fmt.{digits}
use Rattle.at_model.specs.Classes.{chain}
use Rattle.at_model.specs.Names.{reserved_words}
use Rattle.at_model.proofs.turn_cases.turns_are_counted.Goals as goal

pub returns-clause-posted : goal.returns-clause-posted
unfolding chain digits reserved_words
returns-clause-posted c = refl

pub returns-clause-turn : goal.returns-clause-turn
unfolding chain digits reserved_words
returns-clause-turn c = refl

pub returns-clause-edit : goal.returns-clause-edit
unfolding chain digits reserved_words
returns-clause-edit c = refl
