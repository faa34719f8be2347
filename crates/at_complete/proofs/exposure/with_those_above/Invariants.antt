use Rattle.std.proofs.Common.{length}
use Rattle.std.specs.Prelude.{true}
use Rattle.at_complete.specs.Completing.{leads_up, is_met_concrete, HasBelow}
use Rattle.at_complete.specs.Walks.{Walking}
use Rattle.at_complete.proofs.exposure.with_those_above.Given as goal

abbrev pub invariant-loop-step : goal.invariant-loop-step
invariant-loop-step l = Walking (length l.classes) (is_met_concrete l.classes l.exposed.met.items) (leads_up l.classes)
    (λ c. true) (HasBelow l.classes l.exposed.met.items) l.step l.walk.met.items l.walk.pending.items
