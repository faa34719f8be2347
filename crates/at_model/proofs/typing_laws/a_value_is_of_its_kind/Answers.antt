use Rattle.at_model.proofs.of_typing.TypedTogether.{demanded, value_of_kind}
use Rattle.at_model.proofs.typing_laws.a_value_is_of_its_kind.Goals as goal

pub returns-clause-value : goal.returns-clause-value
returns-clause-value c = λ rules ok t sound i v formed has. value_of_kind rules ok t sound i formed v has

pub returns-clause-demanded : goal.returns-clause-demanded
returns-clause-demanded c = λ rules ok t sound i j v formed leads has. value_of_kind rules ok t sound j (demanded rules ok t sound i formed j leads) v has
