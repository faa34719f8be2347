use Rattle.std.proofs.Common.{subst, map}
use Rattle.at_model.specs.Bodies.{no_exprs}
use Rattle.at_body.specs.Typed.{Calls}
use Rattle.at_body.specs.Values.{value_view}
use Rattle.at_body.proofs.trial.demand.Goals as goal

pub returns-in-Some-clause-typed : goal.returns-in-Some-clause-typed
returns-in-Some-clause-typed c = λ r a t h. subst (λ o. Calls r a t c.args.attribute o (map value_view c.args.arguments) no_exprs) c.in-Some.is h
