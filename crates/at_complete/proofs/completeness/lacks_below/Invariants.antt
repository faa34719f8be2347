use Rattle.std.proofs.Common.{length}
use Rattle.std.specs.Prelude.{nat_eq}
use Rattle.at_complete.specs.Completing.{leads_own, passes_own, IsWithoutAbove}
use Rattle.at_complete.specs.Walks.{Walking}
use Rattle.at_complete.proofs.completeness.lacks_below.Given as goal

abbrev pub invariant-loop-step : goal.invariant-loop-step
invariant-loop-step l = Walking (length l.rules.classes) (λ c. nat_eq c l.fn.class) (leads_own l.rules l.attribute)
    (passes_own l.rules l.attribute) (IsWithoutAbove l.rules l.fn.class l.attribute) l.step l.walk.met.items
    l.walk.pending.items
