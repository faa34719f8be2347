use Rattle.at_model.proofs.of_machines.Commanded.{asked_line}
use Rattle.at_model.proofs.of_machines.Replying.{reply_to_line, reply_to_waiting, turn_answers, reply_to_no_line, reply_without_memory}
use Rattle.at_model.proofs.command_laws.every_line_has_a_reply.Goals as goal

pub returns-clause-line : goal.returns-clause-line
returns-clause-line c = reply_to_line

pub returns-clause-waits : goal.returns-clause-waits
returns-clause-waits c = reply_to_waiting

pub returns-clause-turn : goal.returns-clause-turn
returns-clause-turn c = turn_answers

pub returns-clause-asked : goal.returns-clause-asked
returns-clause-asked c = asked_line

pub returns-clause-no_line : goal.returns-clause-no_line
returns-clause-no_line c = reply_to_no_line

pub returns-clause-memory : goal.returns-clause-memory
returns-clause-memory c = reply_without_memory
