-- What becomes of a question once the equation of its last one was tried: it has a value, gives a formula, or waits.
use Rattle.std.specs.Prelude.{◌≡◌, ℕ, [], ◌∷◌, ◌++◌, Option, Some, IsSome, IfOk, Result}
use Rattle.at_model.specs.Rules.{Rules, start_of}
use Rattle.at_model.specs.Run.{Instance}
use Rattle.at_model.specs.of_fixpoints.Fixpoints.{EndsSo, Made}
use Rattle.at_store.specs.Shown.{Shown, contents}
use Rattle.at_body.specs.declared.value.Value.{Value as ValueCode}
use Rattle.at_cache.specs.Kept.{Entries}
use Rattle.at_cache.specs.Traced.{Memories}
use Rattle.at_search.specs.declared.ended.Formed.{Formed}
use Rattle.at_demand.specs.declared.answer.Answer.{Answer}
use Rattle.at_demand.specs.declared.evaluation.Find.{Find}
use Rattle.at_demand.specs.declared.question.Question.{Question}
use Rattle.at_demand.specs.declared.trials.Trials.{Trials}
use Rattle.at_demand.specs.declared.trying.Trying.{Trying}
use Rattle.at_demand.specs.Answerable.{CanTurnWith}
use Rattle.at_demand.specs.ChainSteps.{HasPassedOn, HasSettled, IsDeeper}
use Rattle.at_demand.specs.Groups.{KeepsGroups}
use Rattle.at_demand.specs.KeptTrials.{FitAfter, HasEndedLast}
use Rattle.at_evaluate.specs.Valued.{meaning}
use Rattle.at_demand.specs.Levels.{IsFormOf}
use Rattle.at_demand.specs.Searches.{GainsBetween, LeavesSo, TurnsBy}

-- the last one waits for that, whose value the trial of the one below is told
abbrev pub AwaitsLast : (old : Question) → (t u : Trials) → Type 0
AwaitsLast old t u = u ≡ record t { awaited = Some old.inst }

-- the root of the last level is off with a value that came to be kept, and the trial of the one that waits is told of it
abbrev pub IsPassedLast : (old new : Question) → (t u : Trials) → ValueCode → Option Answer → Type 0
IsPassedLast old new t u v o = HasPassedOn old v new o × AwaitsLast old t u

-- so it is with one that is kept, and is no longer tried
abbrev pub IsPassedOver : (old new : Question) → (t u : Trials) → ValueCode → Option Answer → Type 0
IsPassedOver old new t u v o = (mid : Trials) × HasEndedLast t mid × IsPassedLast old new mid u v o

-- so it is with one that was found
abbrev pub IsSettledLast : (old new : Question) → (t u : Trials) → Find → Option Answer → Type 0
IsSettledLast old new t u f o = HasSettled old f new o × AwaitsLast old t u

-- the last one waits in its level for one that is tried now, and its trial is the last of the trials
pub record IsDeeperLast (old new : Question) (t u : Trials) (f : Trying) (j : Instance ℕ) : Type 0 where
  pub deeper : IsDeeper old new j
  pub frames : u.frames.items ≡ t.frames.items ++ f ∷ []
  pub awaited : u.awaited ≡ t.awaited
  pub noted : u.noted.entries ≡ t.noted.entries

-- the equation of the last one gives that formula, which is recorded with what it looked at and took
pub record CanForm (rules : Rules) (s : Shown) (entries : Entries) (q : Question) (t : Trials) (f : Formed) : Type 0 where
  pub turns : CanTurnWith rules s entries q t
  pub circular : IsSome (start_of rules q.inst.attribute)
  pub ends : EndsSo (contents s) (meaning rules) q.inst (Made f.formula)
  pub is : IsFormOf rules (contents s) entries q.found.entries q.inst f

-- the search goes along behind that
pub record HasFormed {E : Type 0} (rules : Rules) (s : Shown) (before after : Entries) (former latter : Memories) (earlier later : ℕ)
    (old new : Question) (t : Trials) (r : Result (Option Answer) E) : Type 0 where
  pub gains : GainsBetween rules s before after former latter earlier later old new (KeepsGroups rules r)
  pub turned : TurnsBy rules s before after old new r
  pub fit : IfOk r (FitAfter rules s after new t)
  pub leaves : LeavesSo rules s before after old new r
