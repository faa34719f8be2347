-- What a try finds.
use Rattle.std.specs.Prelude.{List, ◌++◌, None, Some, ℕ}
use Rattle.at_model.specs.Run.{Value, Location, Contents, Known, Tried, Valued, Faulted, Needs, tried, reads}
use Rattle.at_model.specs.Follow.{Reached, Ends, Stops, Waits}
use Rattle.at_model.specs.of_fixpoints.Formulas.{Formula}
use Rattle.at_body.specs.declared.forming.Progress.{Progress}
use Rattle.at_body.specs.declared.forming.Progress.TheVariants as progress
use Rattle.at_body.specs.declared.trial.Step.{Step}
use Rattle.at_body.specs.declared.trial.Step.TheVariants as step
use Rattle.at_body.specs.declared.trying.Tried.{Tried as TriedCode}
use Rattle.at_body.specs.declared.trying.Tried.TheVariants as found
use Rattle.at_body.specs.Values.{value_view, fault_view}

abbrev pub tried_of : Step → Tried ℕ (Value ℕ)
tried_of (step.Value v) = Valued (value_view v)
tried_of (step.Fault f) = Faulted (fault_view f)
tried_of (step.Need j) = Needs j

abbrev pub tried_view : TriedCode → Tried ℕ (Value ℕ)
tried_view (found.Value v) = Valued (value_view v)
tried_view (found.Fault f) = Faulted (fault_view f)
tried_view (found.Need j) = Needs j

-- where a try for a formula has come to
abbrev pub tried_to : Progress → Tried ℕ (Formula ℕ)
tried_to (progress.Formula f) = Valued f
tried_to (progress.Fault f) = Faulted (fault_view f)
tried_to (progress.Need j) = Needs j

-- how a try goes on from where its evaluation has come to
abbrev pub onward : {N A : Type 0} → Contents N → Known N → Reached N A × List (Location N) → Tried N A × List (Location N)
onward look known (Ends a, seen) = (Valued a, seen)
onward look known (Stops f, seen) = (Faulted f, seen)
onward look known (Waits j k, seen) = elim (known j) [ None ↦ (Needs j, seen) | Some v ↦ (tried look known (k v), seen ++ reads look known (k v)) ]
