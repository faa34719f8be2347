use Rattle.std.proofs.Common.{map}
use Rattle.std.proofs.lemmas.Result.{err_from_is_err_and}
use Rattle.at_start.specs.ConstantFaults.{first_refusal, oversized}
use Rattle.at_start.specs.PlacedView.{placed_view}
use Rattle.at_start.proofs.PlantingLoops.{tells_first}
use Rattle.at_start.proofs.constants.faults.look_at_trees.Goals as goal

pub returns-in_err-look_at_sizes : goal.returns-in_err-look_at_sizes
returns-in_err-look_at_sizes c =
    let p = err_from_is_err_and c.from_residual.result c.from_residual.ensures.1 in
    rw (p.1, p.2) (tells_first (first_refusal (oversized c.args.classes.now) (map placed_view c.args.constants.now)) _ c.in_err-look_at_sizes.field-0.0
    c.in_err-look_at_sizes.ensures)

pub returns : goal.returns
returns c = rw (c.in_ok-look_at_sizes.ensures) c.look_at_circles.ensures
