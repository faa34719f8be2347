use Rattle.at_model.proofs.of_typing.TypedTogether.{demanded}
use Rattle.at_model.proofs.typing_laws.what_is_demanded_is_well_formed.Goals as goal

pub returns : goal.returns
returns c = λ rules ok t sound i j formed leads. demanded rules ok t sound i formed j leads
