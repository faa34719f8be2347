use Rattle.at_model.proofs.of_typing.Taken.{taken}
use Rattle.at_model.proofs.typing_laws.what_is_taken_has_its_kind.Goals as goal

pub returns : goal.returns
returns c = taken
