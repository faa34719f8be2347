use Rattle.at_index.proofs.of_runs.Seats.{runs_then}
use Rattle.at_index.proofs.tells.Adding.run_for.Goals as goal

pub returns-clause-keeps : goal.returns-clause-keeps
returns-clause-keeps g c = runs_then c.in_ok-last.ensures.keeps (c.add_run.ensures.keeps _ _)
