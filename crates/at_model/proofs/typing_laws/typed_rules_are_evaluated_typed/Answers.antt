use Rattle.at_model.proofs.of_typing.TypedTogether.{evaluated_any, evaluated}
use Rattle.at_model.proofs.typing_laws.typed_rules_are_evaluated_typed.Goals as goal

pub returns-clause-any : goal.returns-clause-any
returns-clause-any c = evaluated_any

pub returns-clause-given : goal.returns-clause-given
returns-clause-given c = evaluated
