use Rattle.at_body.specs.Values.{value_view}
use Rattle.std.proofs.Common.{false}
use Rattle.at_body.proofs.of_typing.TypedUses.{and_enters, and_takes}
use Rattle.at_body.proofs.trial.and.Goals as goal

pub returns-then-truth-clause-typed : goal.returns-then-truth-clause-typed
returns-then-truth-clause-typed c = λ r a t h. and_enters r a t c.args.right (value_view c.args.left.now) h

pub returns-clause-typed : goal.returns-clause-typed
returns-clause-typed c = λ r a t h. and_takes r a t c.args.right (value_view c.args.left.now) false h
