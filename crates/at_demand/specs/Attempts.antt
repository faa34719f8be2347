-- What one try of an instance comes to.
use Rattle.std.specs.Prelude.{◌≡◌, ℕ, List, [], ◌∷◌, ◌++◌, Some, None, IsSome, IfOk, Result}
use Rattle.std.specs.Map.{lookup}
use Rattle.at_model.specs.Run.{Instance, Contents}
use Rattle.at_model.specs.Rules.{Rules, start_of}
use Rattle.at_model.specs.Instances.{AnyText}
use Rattle.at_model.specs.Meaning.{Faults}
use Rattle.at_model.specs.of_fixpoints.Fixpoints.{HasValue, Holds}
use Rattle.at_model.specs.of_fixpoints.Resting.{Comes}
use Rattle.at_evaluate.specs.Meant.{AreRightValues}
use Rattle.at_model.specs.TypedRuns.{ClassAt, IsWellTyped}
use Rattle.at_body.specs.Same.{same_instance}
use Rattle.at_store.specs.Shown.{Shown, contents}
use Rattle.at_body.specs.Typed.{IsTypedStep, class_shown}
use Rattle.at_body.specs.Values.{value_view, fault_view}
use Rattle.at_body.specs.TypedForms.{IsTypedProgress}
use Rattle.at_body.specs.declared.forming.Progress.{Progress}
use Rattle.at_body.specs.declared.trial.Step.{Step}
use Rattle.at_body.specs.declared.trial.Step.TheVariants as step
use Rattle.at_cache.specs.Kept.{Entries}
use Rattle.at_demand.specs.declared.evaluation.Find.{Find}
use Rattle.at_demand.specs.declared.evaluation.Frame.{Frame}
use Rattle.at_demand.specs.declared.formation.Formation.{Formation}
use Rattle.at_demand.specs.declared.trying.Going.{Going}
use Rattle.at_demand.specs.declared.trying.Going.TheVariants as going
use Rattle.at_demand.specs.declared.trials.Attempt.{Attempt}
use Rattle.at_demand.specs.declared.trials.Attempt.TheVariants as attempt
use Rattle.at_evaluate.specs.Valued.{kept_values, meaning, ArePlain, AreValued}
use Rattle.at_demand.specs.UnderWay.{HasStepped}
use Rattle.at_demand.specs.Forming.{HasPassedToForm}
use Rattle.at_demand.specs.Covering.{HasPassedTo, IsWhole}
use Rattle.at_demand.specs.Only.{AreLean, IsLean, TakesOnly}
use Rattle.at_evaluate.specs.Right.{AreRight, IsThere}
use Rattle.at_demand.specs.Known.{AreThere}
use Rattle.at_evaluate.specs.Sparing.{AddsWorthy, AreSpare, Counts}
use Rattle.at_demand.specs.Worth.{AreSettled, MayGain}

-- The trial of an instance has come to this step, past values that hold; what it looked at and took is what its evaluation sees and
-- comes to, all values are of their kinds, and what it took of what is kept is kept.
pub record HasComeTo (rules : Rules) (at : ClassAt ℕ) (look : Contents ℕ) (entries : Entries) (found : List (Instance ℕ
    × Find)) (i : Instance ℕ) (f : Frame) (s : Step) : Type 0 where
  pub stepped : HasStepped rules look i f.trial s
  pub passed : HasPassedTo rules look found i f s
  pub takes : TakesOnly rules look found i f.demanded
  pub typed : IsTypedStep rules at s f.trial
  pub kept : AreValued entries f.demanded.kept.items

-- The evaluation of a circular attribute has come so far, past values that hold; what it looked at and took is what it sees and comes to,
-- all is of its kinds, and what it took of what is kept is kept.
pub record HasFormedTo (rules : Rules) (at : ClassAt ℕ) (look : Contents ℕ) (entries : Entries) (found : List (Instance ℕ × Find)) (i : Instance ℕ)
    (f : Formation) (p : Progress) : Type 0 where
  pub passed : HasPassedToForm rules look found i f p
  pub takes : TakesOnly rules look found i f.demanded
  pub typed : IsTypedProgress rules at look p f.forming
  pub kept : AreValued entries f.demanded.kept.items

-- so has a try, for a value where the attribute isn't circular
abbrev pub IsGoing : Rules → ClassAt ℕ → Contents ℕ → Entries → List (Instance ℕ × Find) → Instance ℕ → Going → Type 0
IsGoing rules at look entries found i (going.Value f s) = (start_of rules i.attribute ≡ None) × HasComeTo rules at look entries found i f.value s
IsGoing rules at look entries found i (going.Formula b p) = IsSome (start_of rules i.attribute) × HasFormedTo rules at look entries found i b.value p

-- where it needs another instance, its trial waits for that, and where it fails it has come to that
abbrev pub Awaits : Rules → ClassAt ℕ → Contents ℕ → Entries → List (Instance ℕ × Find) → Instance ℕ → Frame → Attempt → Type 0
Awaits rules at look entries found i f (attempt.Kept v) = Unit {0}
Awaits rules at look entries found i f (attempt.Found d) = Unit {0}
Awaits rules at look entries found i f (attempt.Fails kind) = HasComeTo rules at look entries found i f (step.Fault kind)
Awaits rules at look entries found i f (attempt.Needs j) = HasComeTo rules at look entries found i f (step.Need j)

-- the value of an instance was found, with all that it rests on and nothing else
pub record HasFound (rules : Rules) (look : Contents ℕ) (entries : Entries) (found : List (Instance ℕ × Find)) (i : Instance ℕ) (f : Find) : Type 0 where
  pub value : HasValue look (meaning rules) i (value_view f.value)
  pub whole : IsWhole rules look found i f
  pub lean : IsLean rules look found i f
  pub kept : AreValued entries f.demanded.kept.items

-- it needs another instance, which is well typed, and neither kept nor found
pub record HasNeeded (rules : Rules) (at : ClassAt ℕ) (look : Contents ℕ) (entries : Entries) (found : List (Instance ℕ
    × Find)) (i j : Instance ℕ) : Type 0 where
  pub comes : Comes look (meaning rules) i j
  pub unkept : kept_values entries j ≡ None
  pub unfound : lookup (same_instance j) found ≡ None
  pub typed : IsWellTyped rules at AnyText j

-- what one try of an instance has come to
abbrev pub HasTried : Rules → ClassAt ℕ → Contents ℕ → Entries → List (Instance ℕ × Find) → Instance ℕ → Attempt → Type 0
HasTried rules at look entries found i (attempt.Kept v) = (f : Find) × (f.value ≡ v) × HasFound rules look entries found i f
HasTried rules at look entries found i (attempt.Found f) = HasFound rules look entries found i f
HasTried rules at look entries found i (attempt.Fails kind) = Holds look (meaning rules) i (Faults (fault_view kind) i)
HasTried rules at look entries found i (attempt.Needs j) = HasNeeded rules at look entries found i j

-- what was found of lazy attributes is kept, with the value of this one, where it was found
abbrev pub SettlesOn : Rules → Entries → List (Instance ℕ × Find) → Instance ℕ → Attempt → Type 0
SettlesOn rules entries found i (attempt.Kept v) = AreSettled rules entries found
SettlesOn rules entries found i (attempt.Found f) = AreSettled rules entries (found ++ (i, f) ∷ [])
SettlesOn rules entries found i (attempt.Fails kind) = AreSettled rules entries found
SettlesOn rules entries found i (attempt.Needs j) = AreSettled rules entries found

-- a value that is said to be kept is kept
abbrev pub IsKeptAs : Entries → Instance ℕ → Attempt → Type 0
IsKeptAs entries i (attempt.Kept v) = kept_values entries i ≡ Some (value_view v)
IsKeptAs entries i (attempt.Found f) = Unit {0}
IsKeptAs entries i (attempt.Fails kind) = Unit {0}
IsKeptAs entries i (attempt.Needs j) = Unit {0}

-- nothing is kept where no value was found
abbrev pub IsIdleBy : (before after : Entries) → (earlier later : ℕ) → Attempt → Type 0
IsIdleBy before after earlier later (attempt.Kept v) = Unit {0}
IsIdleBy before after earlier later (attempt.Found f) = Unit {0}
IsIdleBy before after earlier later (attempt.Fails kind) = (after ≡ before) × (later ≡ earlier)
IsIdleBy before after earlier later (attempt.Needs j) = (after ≡ before) × (later ≡ earlier)

-- One try of an instance has come to this. What is kept stays right and spare, and the work counts what is added.
pub record HasAttempted {E : Type 0} (rules : Rules) (s : Shown) (before after : Entries) (earlier later : ℕ)
    (found : List (Instance ℕ × Find)) (i : Instance ℕ) (f : Frame) (r : Result Attempt E) : Type 0 where
  pub tried : IfOk r (HasTried rules (class_shown s) (contents s) before found i)
  pub right : AreRightValues (contents s) (meaning rules) (kept_values after)
  pub stays : IsThere s i → AreThere rules s found → AreRight rules s before → AreRight rules s after
  pub plain : ArePlain rules after
  pub gains : MayGain rules found before after i
  pub worthy : AddsWorthy rules (contents s) i before after
  pub spare : AreSpare rules (contents s) before → AreLean rules (contents s) found → AreSettled rules before found
      → AreSpare rules (contents s) after
  pub settles : AreSpare rules (contents s) before → AreSettled rules before found → IfOk r (SettlesOn rules after found i)
  pub counts : Counts before after earlier later
  pub keeps : IfOk r (IsKeptAs after i)
  pub waits : IfOk r (Awaits rules (class_shown s) (contents s) before found i f)
  pub idle : IfOk r (IsIdleBy before after earlier later)
