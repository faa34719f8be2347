use Rattle.std.proofs.Common.{drop}
use Rattle.at_tree.specs.PathView.{steps_view}
use Rattle.at_store.specs.View.{memory_of}
use Rattle.at_store.proofs.Strides.{GoesBack}
use Rattle.at_store.proofs.walks.walk.Given as goal

abbrev pub invariant-loop-step : goal.invariant-loop-step
invariant-loop-step l = GoesBack (memory_of l.fn.slab) l.fn.classes l.fn.from (steps_view l.fn.steps) l.node (steps_view (drop l.step-index l.steps))
