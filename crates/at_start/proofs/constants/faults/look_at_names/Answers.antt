use Rattle.std.proofs.Common.{◌∙◌, arith}
use Rattle.std.proofs.lemmas.Result.{err_from_is_err_and}
use Rattle.at_start.specs.ConstantFaults.{unnamed}
use Rattle.at_start.specs.PlacedView.{placed_view}
use Rattle.at_start.proofs.PlantingLoops.{passed_by, told_here, told_nowhere}
use Rattle.at_start.proofs.constants.faults.look_at_names.Goals as goal

pub returns-in_err-look_at_name : goal.returns-in_err-look_at_name
returns-in_err-look_at_name c =
    let p = err_from_is_err_and c.from_residual.result c.from_residual.ensures.1 in
    rw (p.1, p.2) (told_here unnamed placed_view c.args.constants.now c.loop-placed.placed-index c.placed-item.result
    c.in_err-look_at_name.field-0.0 (omega arith) c.placed-item.is c.in_err-look_at_name.ensures c.loop-placed.invariant)

pub loop-placed-preserved : goal.loop-placed-preserved
loop-placed-preserved c =
    c.loop-placed.invariant ∙ passed_by unnamed placed_view c.args.constants.now c.loop-placed.placed-index c.placed-item.result (omega arith)
    c.placed-item.is c.in_ok-look_at_name.ensures

pub returns : goal.returns
returns c = told_nowhere unnamed placed_view c.args.constants.now c.loop-placed.placed-index (omega arith) c.loop-placed.invariant
