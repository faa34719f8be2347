-- An evaluation under way.
use Rattle.std.specs.Prelude.{◌≡◌, ℕ, List, None}
use Rattle.at_model.specs.Run.{Value, Instance, Contents, Run, Gives, Fails, Demands, Known}
use Rattle.at_model.specs.Follow.{Reached, Ends, Stops, Waits, Past}
use Rattle.at_model.specs.Rules.{Rules}
use Rattle.at_model.specs.of_fixpoints.Fixpoints.{HasValue}
use Rattle.at_body.specs.Rest.{reached}
use Rattle.at_body.specs.declared.trial.Step.{Step}
use Rattle.at_body.specs.declared.trial.Step.TheVariants as step
use Rattle.at_body.specs.declared.trial.Trial.{Trial}
use Rattle.at_evaluate.specs.Valued.{equations, meaning}

-- what is left of an evaluation that has come so far
abbrev pub left_of : {N A : Type 0} → Reached N A → Run N A
left_of (Ends v) = Gives v
left_of (Stops f) = Fails f
left_of (Waits j k) = Demands j k

-- the evaluation of i has come to where this is left, past demands of values that hold and past the locations that the trial has looked at
abbrev pub HasCome : Rules → Contents ℕ → Instance ℕ → Trial → Run ℕ (Value ℕ) → Type 0
HasCome rules look i t r = (js : List (Instance ℕ)) × Past look (HasValue look (meaning rules)) (equations rules i) js t.reads r

-- it has come to this step
abbrev pub HasStepped : Rules → Contents ℕ → Instance ℕ → Trial → Step → Type 0
HasStepped rules look i t s = HasCome rules look i t (left_of (reached rules.classes s t))

-- what an evaluation came to isn't known
abbrev pub IsOpen : Known ℕ → Step → Type 0
IsOpen known (step.Value v) = Unit {0}
IsOpen known (step.Fault f) = Unit {0}
IsOpen known (step.Need j) = known j ≡ None
