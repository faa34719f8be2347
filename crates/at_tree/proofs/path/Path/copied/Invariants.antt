use Rattle.std.proofs.Common.{◌≡◌, map, take}
use Rattle.at_tree.specs.PathView.{step_view}
use Rattle.at_tree.proofs.path.Path.copied.Given as goal

abbrev pub invariant-loop-step : goal.invariant-loop-step
invariant-loop-step l = map step_view l.steps.items ≡ map step_view (take l.step-index l.step-items)
