use Rattle.at_model.proofs.of_typing.TypedTogether.{listed}
use Rattle.at_model.proofs.typing_laws.all_instances_are_listed.Goals as goal

pub returns : goal.returns
returns c = λ rules ok t sound i j formed leads. listed rules ok t sound i formed j leads
