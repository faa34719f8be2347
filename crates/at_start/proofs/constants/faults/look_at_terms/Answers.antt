use Rattle.std.proofs.Common.{◌∙◌, arith}
use Rattle.std.proofs.lemmas.Result.{err_from_is_err_and}
use Rattle.at_start.specs.ConstantFaults.{misshapen}
use Rattle.at_start.specs.PlacedView.{placed_view}
use Rattle.at_start.proofs.PlantingLoops.{passed_by, told_here, told_nowhere}
use Rattle.at_start.proofs.constants.faults.look_at_terms.Goals as goal

pub returns-in_err-look_at_term : goal.returns-in_err-look_at_term
returns-in_err-look_at_term c =
    let p = err_from_is_err_and c.from_residual.result c.from_residual.ensures.1 in
    rw (p.1, p.2) (told_here (misshapen c.args.classes.now) placed_view c.args.constants.now c.loop-placed.placed-index c.placed-item.result
    c.in_err-look_at_term.field-0.0 (omega arith) c.placed-item.is c.in_err-look_at_term.ensures c.loop-placed.invariant)

pub loop-placed-preserved : goal.loop-placed-preserved
loop-placed-preserved c =
    c.loop-placed.invariant ∙ passed_by (misshapen c.args.classes.now) placed_view c.args.constants.now c.loop-placed.placed-index c.placed-item.result (omega arith)
    c.placed-item.is c.in_ok-look_at_term.ensures

pub returns : goal.returns
returns c = told_nowhere (misshapen c.args.classes.now) placed_view c.args.constants.now c.loop-placed.placed-index (omega arith) c.loop-placed.invariant
