use Rattle.at_index.proofs.of_runs.Along.{over_holds}
use Rattle.at_index.proofs.of_runs.Reaching.{holds_then}
use Rattle.at_index.proofs.of_runs.Seats.{seated_keeps}
use Rattle.at_index.proofs.tells.Adding.sit_anew.Goals as goal

pub returns-in_err-run-clause-seated : goal.returns-in_err-run-clause-seated
returns-in_err-run-clause-seated g c = seated_keeps c.requires c.run_for.ensures.keeps

pub returns-in_err-run-clause-holds : goal.returns-in_err-run-clause-holds
returns-in_err-run-clause-holds g c = over_holds c.args.seats.now.items _ _ c.run_for.ensures.keeps.lists

pub sit_all-requires : goal.sit_all-requires
sit_all-requires g c = seated_keeps c.requires c.run_for.ensures.keeps

pub returns-in-Some-clause-holds : goal.returns-in-Some-clause-holds
returns-in-Some-clause-holds g c l = holds_then (over_holds c.args.seats.now.items _ _ c.run_for.ensures.keeps.lists l) (c.sit_all.ensures.holds l)

pub returns-in-None-clause-seated : goal.returns-in-None-clause-seated
returns-in-None-clause-seated g c = seated_keeps c.requires c.run_for.ensures.keeps

pub returns-in-None-clause-holds : goal.returns-in-None-clause-holds
returns-in-None-clause-holds g c = over_holds c.args.seats.now.items _ _ c.run_for.ensures.keeps.lists
