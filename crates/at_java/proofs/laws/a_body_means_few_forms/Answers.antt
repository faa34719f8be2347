use Rattle.at_java.proofs.Small.{small_body}
use Rattle.at_java.proofs.laws.a_body_means_few_forms.Goals as goal

pub returns : goal.returns
returns c = λ end body e is. small_body end body e is
