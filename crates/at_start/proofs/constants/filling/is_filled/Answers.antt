use Rattle.std.proofs.Common.{◌∙◌, sym}
use Rattle.at_start.specs.ConstantFaults.{is_for}
use Rattle.at_start.specs.PlacedView.{placed_view}
use Rattle.at_start.proofs.PlantingFillings.{any_map}
use Rattle.at_start.proofs.constants.filling.is_filled.Goals as goal

pub returns : goal.returns
returns c = c.is_for_one.ensures ∙ sym (any_map (is_for c.args.class.now c.args.name.now) placed_view c.args.constants.now)
