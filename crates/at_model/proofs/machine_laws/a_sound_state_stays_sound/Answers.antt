use Rattle.at_model.proofs.of_machines.Sound.{sound_served, sound_turn, sound_given}
use Rattle.at_model.proofs.machine_laws.a_sound_state_stays_sound.Goals as goal

pub returns-clause-line : goal.returns-clause-line
returns-clause-line c = λ rules. sound_served rules

pub returns-clause-turn : goal.returns-clause-turn
returns-clause-turn c = λ rules. sound_turn rules

pub returns-clause-turns : goal.returns-clause-turns
returns-clause-turns c = λ rules. sound_given rules
