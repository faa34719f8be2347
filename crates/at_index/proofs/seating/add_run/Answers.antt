use Rattle.at_index.proofs.Common.{subst, sym, Run, KeepsRuns}
use Rattle.at_index.proofs.of_runs.Seats.{run_pushed, runs_stay}
use Rattle.at_index.proofs.seating.add_run.Goals as goal

pub returns-in_err-push-clause-keeps : goal.returns-in_err-push-clause-keeps
returns-in_err-push-clause-keeps c m x = runs_stay c.in_err-push.ensures.items

pub returns-clause-keeps : goal.returns-clause-keeps
returns-clause-keeps c m x =
    let r : Run = record { count = 0; edges = c.new.result } in
    subst (KeepsRuns m x c.args.runs.now.items) (sym c.in_ok-push.ensures.items) (run_pushed c.args.runs.now.items r c.new.ensures.items)
