-- What one try of a question's last instance comes to, for a value or for a formula.
use Rattle.std.specs.Prelude.{◌≡◌, ℕ, List, [], ◌∷◌, ◌++◌, Some, None, IsSome, IfOk, Result}
use Rattle.at_model.specs.Instances.{AnyText}
use Rattle.at_model.specs.Meaning.{Reaches}
use Rattle.at_model.specs.Rules.{Rules, start_of}
use Rattle.at_model.specs.Run.{Instance, Contents}
use Rattle.at_model.specs.TypedRuns.{ClassAt, IsWellTyped}
use Rattle.at_model.specs.of_fixpoints.Fixpoints.{EndsSo, HasValue, Made, Spoilt}
use Rattle.at_store.specs.Shown.{Shown, contents}
use Rattle.at_body.specs.Typed.{class_shown}
use Rattle.at_body.specs.TypedForms.{IsForm}
use Rattle.at_body.specs.Values.{fault_view, value_view}
use Rattle.at_cache.specs.Kept.{Entries}
use Rattle.at_demand.specs.declared.evaluation.Find.{Find}
use Rattle.at_demand.specs.declared.trying.Going.{Going}
use Rattle.at_demand.specs.declared.trying.Tried.{Tried}
use Rattle.at_demand.specs.declared.trying.Tried.TheVariants as tried
use Rattle.at_demand.specs.Answerable.{AreFinds, IsAnswerable}
use Rattle.at_demand.specs.Attempts.{HasFound, IsGoing}
use Rattle.at_demand.specs.Forming.{waits_for}
use Rattle.at_evaluate.specs.Valued.{ArePlain, kept_values, meaning}
use Rattle.at_demand.specs.Known.{known_in, AreThere}
use Rattle.at_demand.specs.Levels.{IsFormOf}
use Rattle.at_evaluate.specs.Meant.{AreRightValues}
use Rattle.at_demand.specs.Only.{AreLean}
use Rattle.at_evaluate.specs.Right.{AreRight, IsThere}
use Rattle.at_demand.specs.Turns.{HasMetAll}
use Rattle.at_evaluate.specs.Sparing.{AddsWorthy, AreSpare, Counts}
use Rattle.at_demand.specs.Worth.{AreSettled, MayGain}

-- it demands another instance, which is well typed, and neither kept nor found; and it waits for that
pub record NeedsOther (rules : Rules) (at : ClassAt ℕ) (look : Contents ℕ) (entries : Entries) (found : List (Instance ℕ × Find)) (i j : Instance ℕ)
    (g : Going) : Type 0 where
  pub demands : Reaches look (HasValue look (meaning rules)) ((meaning rules).formula i) j
  pub unknown : known_in entries found j ≡ None
  pub typed : IsWellTyped rules at AnyText j
  pub waits : IsGoing rules at look entries found i g

-- what one try of an instance has come to
abbrev pub HasTriedTo : Rules → ClassAt ℕ → Contents ℕ → (before after : Entries) → List (Instance ℕ × Find) → Instance ℕ → Tried → Type 0
HasTriedTo rules at look before after found i (tried.Kept v) = (f : Find) × (f.value ≡ v) × HasFound rules look before found i f
    × (start_of rules i.attribute ≡ None) × (kept_values after i ≡ Some (value_view v))
HasTriedTo rules at look before after found i (tried.Found f) = HasFound rules look before found i f × (start_of rules i.attribute ≡ None)
HasTriedTo rules at look before after found i (tried.Forms f) = EndsSo look (meaning rules) i (Made f.formula)
    × IsFormOf rules look before found i f × IsForm rules at f.formula × IsSome (start_of rules i.attribute)
HasTriedTo rules at look before after found i (tried.Fails k) = EndsSo look (meaning rules) i (Spoilt (fault_view k) i)
    × HasMetAll rules look before found i
HasTriedTo rules at look before after found i (tried.Waits t j) = NeedsOther rules at look before found i j (waits_for t j)

-- nothing is kept where no value was found
abbrev pub IsIdleBy : (before after : Entries) → (earlier later : ℕ) → Tried → Type 0
IsIdleBy before after earlier later (tried.Kept v) = Unit {0}
IsIdleBy before after earlier later (tried.Found f) = Unit {0}
IsIdleBy before after earlier later (tried.Forms f) = (after ≡ before) × (later ≡ earlier)
IsIdleBy before after earlier later (tried.Fails k) = (after ≡ before) × (later ≡ earlier)
IsIdleBy before after earlier later (tried.Waits t j) = (after ≡ before) × (later ≡ earlier)

-- what was found of lazy attributes is kept, with the value of this one, where it was found
abbrev pub SettlesOn : Rules → Entries → List (Instance ℕ × Find) → Instance ℕ → Tried → Type 0
SettlesOn rules entries found i (tried.Kept v) = AreSettled rules entries found
SettlesOn rules entries found i (tried.Found f) = AreSettled rules entries (found ++ (i, f) ∷ [])
SettlesOn rules entries found i (tried.Forms f) = AreSettled rules entries found
SettlesOn rules entries found i (tried.Fails k) = AreSettled rules entries found
SettlesOn rules entries found i (tried.Waits t j) = AreSettled rules entries found

-- a try of an instance that isn't kept can be gone on with
pub record CanCarryOn (rules : Rules) (s : Shown) (entries : Entries) (found : List (Instance ℕ × Find)) (i : Instance ℕ) (g : Going) : Type 0 where
  pub answerable : IsAnswerable rules s entries
  pub going : IsGoing rules (class_shown s) (contents s) entries found i g
  pub finds : AreFinds rules s entries found
  pub unkept : kept_values entries i ≡ None

-- One try of an instance has come to this. What is kept stays right and spare, and the work counts what is added.
pub record HasCarriedOn {E : Type 0} (rules : Rules) (s : Shown) (before after : Entries) (earlier later : ℕ)
    (found : List (Instance ℕ × Find)) (i : Instance ℕ) (r : Result Tried E) : Type 0 where
  pub tried : IfOk r (HasTriedTo rules (class_shown s) (contents s) before after found i)
  pub right : AreRightValues (contents s) (meaning rules) (kept_values after)
  pub stays : IsThere s i → AreThere rules s found → AreRight rules s before → AreRight rules s after
  pub plain : ArePlain rules after
  pub gains : MayGain rules found before after i
  pub worthy : AddsWorthy rules (contents s) i before after
  pub spare : AreSpare rules (contents s) before → AreLean rules (contents s) found → AreSettled rules before found
      → AreSpare rules (contents s) after
  pub settles : AreSpare rules (contents s) before → AreSettled rules before found → IfOk r (SettlesOn rules after found i)
  pub counts : Counts before after earlier later
  pub idle : IfOk r (IsIdleBy before after earlier later)
