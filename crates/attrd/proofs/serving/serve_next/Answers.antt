use Rattle.std.proofs.Common.{refl}
use Rattle.at_engine.specs.Engines.{rules_of}
use Rattle.attrd.specs.Doors.{by_run, not_accepted}
use Rattle.attrd.proofs.DoorsLemmas.{run_whole, runs_so}
use Rattle.attrd.proofs.serving.serve_next.Goals as goal

pub returns-clause-serves : goal.returns-clause-serves
returns-clause-serves g c =
    by_run c.run_gathering-served.result _ _ _ _ _ c.in-Ok.ensures.comes c.in-Ok.ensures.fresh
    (runs_so c.gathers-gathers.ensures c.run_gathering-served.ensures) c.note_served.ensures c.ended.ensures

pub returns-in_default-clause-serves : goal.returns-in_default-clause-serves
returns-in_default-clause-serves g c = not_accepted refl c.in_default.ensures.refused refl

pub returns-clause-spare : goal.returns-clause-spare
returns-clause-spare g c whole spare =
    c.run_gathering-served.ensures.spare (run_whole (rules_of c.args.engine.now) c.run_gathering-served.result c.ended.result
    c.ended.ensures whole) spare
