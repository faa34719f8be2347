use Rattle.at_model.proofs.of_typing.TypedTogether.{expression_typed}
use Rattle.at_model.proofs.typing_laws.a_typed_expression_has_its_kind.Goals as goal

pub returns : goal.returns
returns c = expression_typed
