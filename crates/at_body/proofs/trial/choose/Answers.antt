use Rattle.at_body.specs.Values.{value_view}
use Rattle.at_body.proofs.of_typing.TypedUses.{choices}
use Rattle.at_body.proofs.trial.choose.Goals as goal

pub returns-then-truth-clause-typed : goal.returns-then-truth-clause-typed
returns-then-truth-clause-typed c = λ r a t h. (choices r a t c.args.yes c.args.no (value_view c.args.test.now) h).yes

pub returns-clause-typed : goal.returns-clause-typed
returns-clause-typed c = λ r a t h. (choices r a t c.args.yes c.args.no (value_view c.args.test.now) h).alternative
