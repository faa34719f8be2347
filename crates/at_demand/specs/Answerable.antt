-- When questions are answered: what their evaluations stand on is sound, and what is kept is right.
use Rattle.std.specs.Prelude.{◌≡◌, ℕ, None, false, true, List, IsSome}
use Rattle.at_model.specs.Run.{Instance}
use Rattle.at_model.specs.Rules.{Rules, is_lazy, start_of}
use Rattle.at_model.specs.Instances.{AnyText}
use Rattle.at_evaluate.specs.Meant.{AreCircularWell, AreRightValues}
use Rattle.at_model.specs.TypedRuns.{IsWellTyped}
use Rattle.at_model.specs.WellFormed.{AreWellFormed, IsTreeSound}
use Rattle.at_store.specs.Shown.{IsIdle, Shown, contents, tree}
use Rattle.at_body.specs.Typed.{class_shown}
use Rattle.at_body.specs.declared.trial.Step.{Step}
use Rattle.at_cache.specs.Kept.{Entries}
use Rattle.at_cache.specs.Traced.{Memories}
use Rattle.at_demand.specs.declared.evaluation.Find.{Find}
use Rattle.at_demand.specs.declared.evaluation.Frame.{Frame}
use Rattle.at_demand.specs.declared.question.Question.{Question}
use Rattle.at_demand.specs.declared.trials.Trials.{Trials}
use Rattle.at_evaluate.specs.Valued.{meaning, kept_values, ArePlain, AreValued}
use Rattle.at_demand.specs.Known.{known_in, FoundAs, FoundKept}
use Rattle.at_demand.specs.Attempts.{HasComeTo}
use Rattle.at_demand.specs.Covering.{AreWhole}
use Rattle.at_demand.specs.KeptTrials.{Fit}
use Rattle.at_demand.specs.Sound.{AreKeptWhole}
use Rattle.at_evaluate.specs.Traces.{AreJustified}
use Rattle.at_demand.specs.Turns.{IsStanding}

-- evaluations stand on these: no edit waits, the rules are well formed, circular attributes are lazy and boolean, and the tree is sound
pub record IsBasis (rules : Rules) (s : Shown) : Type 0 where
  pub idle : IsIdle s
  pub formed : AreWellFormed rules
  pub sound : IsTreeSound rules.classes (tree s)
  pub circular : AreCircularWell rules

-- and so does that of an instance, which is well typed
pub record CanBegin (rules : Rules) (s : Shown) (i : Instance ℕ) : Type 0 where
  pub basis : IsBasis rules s
  pub typed : IsWellTyped rules (class_shown s) AnyText i

-- and its attribute is circular
pub record CanBeFormed (rules : Rules) (s : Shown) (i : Instance ℕ) : Type 0 where
  pub can : CanBegin rules s i
  pub circular : IsSome (start_of rules i.attribute)

-- questions are answered over them, where what is kept is right, and just what isn't lazy may stand without a value
pub record IsAnswerable (rules : Rules) (s : Shown) (entries : Entries) : Type 0 where
  pub basis : IsBasis rules s
  pub right : AreRightValues (contents s) (meaning rules) (kept_values entries)
  pub plain : ArePlain rules entries

-- so is one for the instance, which is well typed, where what can be kept again is right, too, and what is kept is whole
pub record CanBeAsked (rules : Rules) (s : Shown) (entries : Entries) (m : Memories) (i : Instance ℕ) : Type 0 where
  pub answerable : IsAnswerable rules s entries
  pub typed : IsWellTyped rules (class_shown s) AnyText i
  pub justified : AreJustified rules (contents s) m
  pub wholes : AreKeptWhole rules s entries

-- and so is a question that is given turns, where what was done for it stands
pub record CanTurn (rules : Rules) (s : Shown) (entries : Entries) (q : Question) : Type 0 where
  pub answerable : IsAnswerable rules s entries
  pub standing : IsStanding rules s entries q
  pub wholes : AreKeptWhole rules s entries

-- and with the trials that wait
pub record CanTurnWith (rules : Rules) (s : Shown) (entries : Entries) (q : Question) (t : Trials) : Type 0 where
  pub turns : CanTurn rules s entries q
  pub fit : Fit rules s entries q t

-- what was found is right and whole, and what it took of what is kept is kept
pub record AreFinds (rules : Rules) (s : Shown) (entries : Entries) (found : List (Instance ℕ × Find)) : Type 0 where
  pub right : AreRightValues (contents s) (meaning rules) (known_in entries found)
  pub kept : FoundKept entries found
  pub whole : AreWhole rules (contents s) found

-- the trial of a question's last instance can be begun, or gone on with where it waits
pub record CanBeTried (rules : Rules) (s : Shown) (entries : Entries) (q : Question) (t : Trials) : Type 0 where
  pub basis : IsBasis rules s
  pub typed : IsWellTyped rules (class_shown s) AnyText q.inst
  pub fit : Fit rules s entries q t

-- the trial of an instance that isn't kept can be gone on with
pub record CanGoOn (rules : Rules) (s : Shown) (entries : Entries) (found : List (Instance ℕ × Find)) (i : Instance ℕ) (f : Frame) (t : Step)
    : Type 0 where
  pub answerable : IsAnswerable rules s entries
  pub standing : HasComeTo rules (class_shown s) (contents s) entries found i f t
  pub own : start_of rules i.attribute ≡ None
  pub finds : AreFinds rules s entries found
  pub unkept : kept_values entries i ≡ None

-- what the find and those below it took of what is kept is kept
pub record RestsOnKept (entries : Entries) (found : List (Instance ℕ × Find)) (f : Find) : Type 0 where
  pub kept : AreValued entries f.demanded.kept.items
  pub finds : FoundKept entries found

-- it is a find of the instance, which isn't lazy and has no entry
pub record CanBeEntered (rules : Rules) (entries : Entries) (found : List (Instance ℕ × Find)) (i : Instance ℕ) (f : Find) : Type 0 where
  pub rests : RestsOnKept entries found f
  pub absent : entries i ≡ None
  pub plain : is_lazy rules i.attribute ≡ false
  pub at : FoundAs found i f

-- the value of the find can be kept for the instance, where it is lazy
pub record CanBeKept (rules : Rules) (entries : Entries) (found : List (Instance ℕ × Find)) (i : Instance ℕ) (f : Find) : Type 0 where
  pub rests : RestsOnKept entries found f
  pub unkept : kept_values entries i ≡ None
  pub plain : ArePlain rules entries

-- it is lazy
pub record CanBeKeptLazily (rules : Rules) (entries : Entries) (found : List (Instance ℕ × Find)) (i : Instance ℕ) (f : Find) : Type 0 where
  pub lazy : is_lazy rules i.attribute ≡ true
  pub keepable : CanBeKept rules entries found i f
