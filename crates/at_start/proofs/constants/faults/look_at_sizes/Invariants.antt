use Rattle.std.proofs.Common.{◌≡◌, map, drop}
use Rattle.at_start.specs.ConstantFaults.{first_refusal, oversized}
use Rattle.at_start.specs.PlacedView.{placed_view}
use Rattle.at_start.proofs.constants.faults.look_at_sizes.Given as goal

-- none is refused in front
abbrev pub invariant-loop-placed : goal.invariant-loop-placed
invariant-loop-placed l = first_refusal (oversized l.classes) (map placed_view l.constants) ≡ first_refusal (oversized l.classes) (map placed_view (drop l.placed-index l.constants))
