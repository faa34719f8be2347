use Rattle.std.proofs.Common.{length}
use Rattle.std.specs.Prelude.{nat_eq, true}
use Rattle.at_model.specs.Rules.{attribute_name}
use Rattle.at_complete.specs.Completing.{leads, AllExposed}
use Rattle.at_complete.specs.Walks.{Walking}
use Rattle.at_complete.proofs.exposure.exposed_walk.Given as goal

abbrev pub invariant-loop-step : goal.invariant-loop-step
invariant-loop-step l = Walking (length l.rules.classes) (λ c. nat_eq c 0)
    (leads l.rules (attribute_name l.rules l.attribute)) (λ c. true)
    (AllExposed l.rules (attribute_name l.rules l.attribute)) l.step l.walk.met.items l.walk.pending.items
