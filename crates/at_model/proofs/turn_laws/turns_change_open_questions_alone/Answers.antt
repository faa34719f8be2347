use Rattle.at_model.proofs.of_machines.Machines.{turn_leaves, given_leaves}
use Rattle.at_model.proofs.turn_laws.turns_change_open_questions_alone.Goals as goal

pub returns-clause-turn : goal.returns-clause-turn
returns-clause-turn c = turn_leaves

pub returns-clause-turns : goal.returns-clause-turns
returns-clause-turns c = given_leaves
