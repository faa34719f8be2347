use Rattle.at_model.proofs.of_typing.TypedTogether.{evaluated_by_numbers}
use Rattle.at_model.proofs.typing_laws.evaluations_by_numbers_are_typed.Goals as goal

pub returns : goal.returns
returns c = λ path injective rules ok t sound numbers alike i j like formed. evaluated_by_numbers rules ok t sound path injective numbers alike i j like formed
