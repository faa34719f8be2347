use Rattle.at_model.specs.Instances.{AnyText}
use Rattle.at_model.proofs.of_typing.TypedQuestions.{typed_of_formed, formed_of_typed}
use Rattle.at_model.proofs.typing_laws.what_is_well_formed_is_well_typed.Goals as goal

pub returns-clause-typed : goal.returns-clause-typed
returns-clause-typed c = typed_of_formed

pub returns-clause-formed : goal.returns-clause-formed
returns-clause-formed c = λ rules t i typed well. formed_of_typed rules t i AnyText typed well
