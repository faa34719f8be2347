use Rattle.at_body.specs.Values.{value_view}
use Rattle.std.proofs.Common.{true}
use Rattle.at_body.proofs.of_typing.TypedUses.{or_enters, or_takes}
use Rattle.at_body.proofs.trial.or.Goals as goal

pub returns-then-truth-clause-typed : goal.returns-then-truth-clause-typed
returns-then-truth-clause-typed c = λ r a t h. or_takes r a t c.args.right (value_view c.args.left.now) true h

pub returns-clause-typed : goal.returns-clause-typed
returns-clause-typed c = λ r a t h. or_enters r a t c.args.right (value_view c.args.left.now) h
