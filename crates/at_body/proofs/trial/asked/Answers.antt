use Rattle.at_body.proofs.Entering.{demands}
use Rattle.std.proofs.Common.{map, refl, Some}
use Rattle.at_model.proofs.Chained.{chained}
use Rattle.at_body.specs.Values.{value_view}
use Rattle.at_body.proofs.of_typing.TypedUses.{demands_call}
use Rattle.at_body.proofs.trial.asked.Goals as goal

pub returns-clause-same : goal.returns-clause-same
returns-clause-same c = λ tree seen classes t. demands tree seen classes t c.new.result c.args.node c.args.attribute c.args.arguments c.new.ensures

pub returns-clause-typed : goal.returns-clause-typed
returns-clause-typed c = λ r a t hierarchy h. demands_call r a (chained r.classes hierarchy) t c.new.result c.args.node c.args.attribute (Some c.args.node) (map value_view c.args.arguments) refl c.new.ensures h
