use Rattle.at_model.proofs.of_machines.Bounded.{answers_right}
use Rattle.at_model.proofs.turning_laws.an_answer_is_that_of_the_question.Goals as goal

pub returns : goal.returns
returns c = λ look equation q kept u new a on turned. answers_right look equation q u on kept new a turned
