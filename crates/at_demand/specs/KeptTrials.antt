-- The trials that are kept beside a question while its turns follow each other.
use Rattle.std.specs.Prelude.{◌≡◌, ◌⊎◌, ℕ, List, [], ◌∷◌, ◌++◌, map, Option, Some, None, IsSome}
use Rattle.at_model.specs.Run.{Instance, Contents}
use Rattle.at_model.specs.Rules.{Rules}
use Rattle.at_model.specs.Meaning.{Faults}
use Rattle.at_model.specs.TypedRuns.{ClassAt}
use Rattle.at_model.specs.of_fixpoints.Fixpoints.{Holds}
use Rattle.at_store.specs.Shown.{Shown, contents}
use Rattle.at_body.specs.Typed.{class_shown}
use Rattle.at_body.specs.Values.{fault_view}
use Rattle.at_body.specs.Same.{same_instance}
use Rattle.at_cache.specs.Kept.{Entries}
use Rattle.indexmap.specs.IndexMap.{insert_entry}
use Rattle.std.specs.Map.{lookup}
use Rattle.at_search.specs.Recorded.{copied_from}
use Rattle.at_search.specs.declared.ended.Fault.{Fault}
use Rattle.at_demand.specs.declared.answer.Answer.{Answer as AnswerCode}
use Rattle.at_demand.specs.declared.evaluation.Find.{Find}
use Rattle.at_demand.specs.declared.trying.Trying.{Trying}
use Rattle.at_demand.specs.declared.question.Question.{Question}
use Rattle.at_demand.specs.declared.trials.Trials.{Trials}
use Rattle.at_demand.specs.Forming.{waits_for}
use Rattle.at_evaluate.specs.Valued.{meaning}
use Rattle.at_demand.specs.Levels.{LevelCode, root_in}
use Rattle.at_demand.specs.Attempts.{IsGoing}

-- the last trial was taken, which waits for j
pub record HasTaken (old new : Trials) (f : Trying) (j : Instance ℕ) : Type 0 where
  pub awaited : old.awaited ≡ Some j
  pub frames : old.frames.items ≡ new.frames.items ++ f ∷ []
  pub none : new.awaited ≡ None
  pub noted : new.noted.entries ≡ old.noted.entries

-- or there was none for the last instance
pub record HasNoLast (old new : Trials) : Type 0 where
  pub none : new.awaited ≡ None
  pub same : (old.awaited ≡ None) ⊎ (old.frames.items ≡ [])
  pub frames : new.frames.items ≡ old.frames.items
  pub noted : new.noted.entries ≡ old.noted.entries

abbrev pub HasLast : (old new : Trials) → Option (Trying × Instance ℕ) → Type 0
HasLast old new None = HasNoLast old new
HasLast old new (Some p) = HasTaken old new p.0 p.1

-- the last trial is gone
pub record HasDropped (old new : Trials) : Type 0 where
  pub none : new.awaited ≡ None
  pub frames : ((f : Trying) × (old.frames.items ≡ new.frames.items ++ f ∷ [])) ⊎ ((old.frames.items ≡ []) × (new.frames.items ≡ []))
  pub noted : new.noted.entries ≡ old.noted.entries

-- the trial of the last instance is gone, where there was one
pub record HasEndedLast (old new : Trials) : Type 0 where
  pub none : new.awaited ≡ None
  pub frames : ((old.awaited ≡ None) × (new.frames.items ≡ old.frames.items)) ⊎ (IsSome old.awaited × HasDropped old
      new)
  pub noted : new.noted.entries ≡ old.noted.entries

-- the root of the level of the first of these, or that one
abbrev pub next_of : List ((Instance ℕ × LevelCode) × Trying) → Instance ℕ → Instance ℕ
next_of [] j = j
next_of (e ∷ es) j = root_in e.0.1 e.0.0

-- each of these waits for the root of the level of the next, and the last one for j
abbrev pub AllWait : Rules → ClassAt ℕ → Contents ℕ → Entries → List (Instance ℕ × Find) → List ((Instance ℕ × LevelCode) × Trying) → Instance ℕ → Type 0
AllWait rules at look entries found [] j = Unit {0}
AllWait rules at look entries found (e ∷ es) j = IsGoing rules at look entries found e.0.0 (waits_for e.1 (next_of es j))
    × AllWait rules at look entries found es j

abbrev pub frames_of : List ((Instance ℕ × LevelCode) × Trying) → List Trying
frames_of es = map (λ (e : (Instance ℕ × LevelCode) × Trying). e.1) es

abbrev pub owners_of : List ((Instance ℕ × LevelCode) × Trying) → List (Instance ℕ × LevelCode)
owners_of es = map (λ (e : (Instance ℕ × LevelCode) × Trying). e.0) es

-- The trials are those of the last ones of these instances, each of which waits for the root of the next level, and the last one for j.
pub record AreTrials (rules : Rules) (at : ClassAt ℕ) (look : Contents ℕ) (entries : Entries) (found : List (Instance ℕ
    × Find)) (owners : List (Instance ℕ × LevelCode)) (j : Instance ℕ) (frames : List Trying) : Type 0 where
  pub front : List (Instance ℕ × LevelCode)
  pub tail : List ((Instance ℕ × LevelCode) × Trying)
  pub owners_are : owners ≡ front ++ owners_of tail
  pub frames_are : frames ≡ frames_of tail
  pub wait : AllWait rules at look entries found tail j

-- They are those of a question's chain, without its last instance; or with it, where that one waits.
abbrev pub FitAt : Rules → Shown → Entries → Question → List Trying → Option (Instance ℕ) → Type 0
FitAt rules s entries q frames None = AreTrials rules (class_shown s) (contents s) entries q.found.entries q.waiting.entries
    (root_in q.level q.inst) frames
FitAt rules s entries q frames (Some j) = AreTrials rules (class_shown s) (contents s) entries q.found.entries
    (q.waiting.entries ++ (q.inst, q.level) ∷ []) j frames

-- this fault is noted of the instance
abbrev pub IsNotedAs : List (Instance ℕ × Fault) → Instance ℕ → Fault → Type 0
IsNotedAs noted i f = (g : Fault) × (lookup (same_instance i) noted ≡ Some g) × copied_from g f

-- so it is from now on
abbrev pub HasNoted : (old new : List (Instance ℕ × Fault)) → Instance ℕ → Fault → Type 0
HasNoted old new i f = (j : Instance ℕ) × (g : Fault) × (j ≡ i) × copied_from f g × (new ≡ insert_entry same_instance
    old j g)

-- what is noted is the outcome of its instance
abbrev pub IsNotedRight : Rules → Contents ℕ → List (Instance ℕ × Fault) → Type 0
IsNotedRight rules look noted = (i : Instance ℕ) (f : Fault) → lookup (same_instance i) noted ≡ Some f
    → Holds look (meaning rules) i (Faults (fault_view f.kind) f.at)

-- So they fit, and what is noted is right.
pub record Fit (rules : Rules) (s : Shown) (entries : Entries) (q : Question) (t : Trials) : Type 0 where
  pub chain : FitAt rules s entries q t.frames.items t.awaited
  pub noted : IsNotedRight rules (contents s) t.noted.entries

-- so they are where the question isn't answered
abbrev pub FitAfter : Rules → Shown → Entries → Question → Trials → Option AnswerCode → Type 0
FitAfter rules s entries q t None = Fit rules s entries q t
FitAfter rules s entries q t (Some a) = Unit {0}
