use Rattle.at_model.proofs.of_machines.Bounded.{begun, stays_on}
use Rattle.at_model.proofs.turning_laws.a_turn_leaves_a_question_on_its_tree.Goals as goal

pub returns-clause-begun : goal.returns-clause-begun
returns-clause-begun c = λ look equation q. begun look equation q

pub returns-clause-stays : goal.returns-clause-stays
returns-clause-stays c = λ look equation q kept u new o on turned. stays_on look equation q u on kept new o turned
