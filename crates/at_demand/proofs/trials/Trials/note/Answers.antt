use Rattle.at_demand.proofs.of_steps.Noting.{either}
use Rattle.at_demand.proofs.trials.Trials.note.Goals as goal

pub returns-clause-noted : goal.returns-clause-noted
returns-clause-noted c = either c.note_in.result c.note_in.ensures.ok c.note_in.ensures.err
