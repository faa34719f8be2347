use Rattle.at_model.specs.Meaning.{content, equations}
use Rattle.at_model.specs.Instances.{instances}
use Rattle.at_model.proofs.of_typing.TypedTogether.{listed}
use Rattle.at_model.proofs.of_machines.Bounded.{few_turns}
use Rattle.at_model.proofs.turning_laws.a_question_has_few_turns.Goals as goal

pub returns : goal.returns
returns c = λ rules ok t sound q formed n u silent. few_turns (content t) (equations rules) n q u (instances rules t q.arguments) silent (λ i leads. listed rules ok t sound q formed i leads)
