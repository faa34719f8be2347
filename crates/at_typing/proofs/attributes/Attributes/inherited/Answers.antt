use Rattle.at_typing.proofs.of_attributes.AttributesFound.{finds_inherited}
use Rattle.at_typing.proofs.attributes.Attributes.inherited.Goals as goal

pub returns : goal.returns
returns c = finds_inherited c.args.self.now c.args.name c.own.result c.own.ensures
