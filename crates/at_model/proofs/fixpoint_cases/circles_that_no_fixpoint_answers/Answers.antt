use Rattle.at_model.proofs.of_formulas.RingCases.{not_circle, x_circle, y_circle, u_circle}
use Rattle.at_model.proofs.fixpoint_cases.circles_that_no_fixpoint_answers.Goals as goal

pub returns-clause-not : goal.returns-clause-not
returns-clause-not c = not_circle

pub returns-clause-x : goal.returns-clause-x
returns-clause-x c = x_circle

pub returns-clause-y : goal.returns-clause-y
returns-clause-y c = y_circle

pub returns-clause-u : goal.returns-clause-u
returns-clause-u c = u_circle
