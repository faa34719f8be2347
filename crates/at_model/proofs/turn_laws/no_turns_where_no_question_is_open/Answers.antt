use Rattle.at_model.proofs.of_machines.Machines.{none_given}
use Rattle.at_model.proofs.turn_laws.no_turns_where_no_question_is_open.Goals as goal

pub returns : goal.returns
returns c = λ rules limit s new told none given. none_given rules limit s told new none given
