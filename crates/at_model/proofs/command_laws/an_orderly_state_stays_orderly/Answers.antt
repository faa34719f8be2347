use Rattle.at_model.proofs.of_machines.Orderly.{orderly_served, orderly_turn, orderly_given}
use Rattle.at_model.proofs.command_laws.an_orderly_state_stays_orderly.Goals as goal

pub returns-clause-line : goal.returns-clause-line
returns-clause-line c = λ rules. orderly_served rules

pub returns-clause-turn : goal.returns-clause-turn
returns-clause-turn c = λ rules. orderly_turn rules

pub returns-clause-turns : goal.returns-clause-turns
returns-clause-turns c = λ rules. orderly_given rules
