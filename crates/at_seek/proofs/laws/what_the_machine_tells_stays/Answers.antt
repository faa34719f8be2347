use Rattle.at_seek.proofs.SameMachine.{line_from, turns_from, ticks_from, lines_from, bytes_from}
use Rattle.at_seek.proofs.laws.what_the_machine_tells_stays.Goals as goal

pub returns-clause-line : goal.returns-clause-line
returns-clause-line c = line_from

pub returns-clause-turn : goal.returns-clause-turn
returns-clause-turn c = ticks_from

pub returns-clause-turns : goal.returns-clause-turns
returns-clause-turns c = turns_from

pub returns-clause-lines : goal.returns-clause-lines
returns-clause-lines c = lines_from

pub returns-clause-output : goal.returns-clause-output
returns-clause-output c = bytes_from
