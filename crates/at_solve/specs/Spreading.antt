-- How far the search for what is derived has come.
use Rattle.std.specs.Prelude.{◌≡◌, ◌⊎◌, ℕ, suc, ◌<◌, Bool, true, false, ◌&&◌, ◌||◌, cond, List, [], ◌∷◌, ◌++◌, Option, None, Some, get_or, length, set, slice_get, Vec}
use Rattle.at_model.specs.Meaning.{Among}
use Rattle.at_solve.specs.declared.condition.Condition.{Condition}
use Rattle.at_solve.specs.declared.condition.Condition.TheVariants.{Always, Never, When, Both, Either}
use Rattle.at_solve.specs.Derivations.{Derives}

-- the positions that a condition names
abbrev pub named : Condition → List ℕ
named Always = []
named Never = []
named (When q) = q ∷ []
named (Both q r) = q ∷ r ∷ []
named (Either q r) = q ∷ r ∷ []

-- the condition, if there is one, names the one at p
abbrev pub NamesIn : Option Condition → (p : ℕ) → Type 0
NamesIn None p = ⊥
NamesIn (Some q) p = Among p (named q)

-- the condition at u names the one at p
abbrev pub Names : List Condition → (u p : ℕ) → Type 0
Names system u p = NamesIn (slice_get system u) p

-- the list at that place, nothing behind the last
abbrev pub users_at : {Z : Type 0} → List (Vec ℕ Z) → ℕ → List ℕ
users_at lists p = elim (slice_get lists p) [ None ↦ [] | Some v ↦ v.items ]

-- each condition has a list, and is in those of the conditions that it names
pub record AreListed {Z : Type 0} (system : List Condition) (users : List (Vec ℕ Z)) : Type 0 where
  pub size : length users ≡ length system
  pub listed : (u p : ℕ) → Names system u p → p < length system → Among u (users_at users p)

-- it is known to be derived
abbrev pub is_known : List Bool → ℕ → Bool
is_known known p = get_or known p false

-- how many aren't
abbrev pub unknown : List Bool → ℕ
unknown [] = 0
unknown (b ∷ bs) = cond b (unknown bs) (suc (unknown bs))

-- the condition is derived by what is known
abbrev pub is_met : List Bool → Condition → Bool
is_met known Always = true
is_met known Never = false
is_met known (When q) = is_known known q
is_met known (Both q r) = is_known known q && is_known known r
is_met known (Either q r) = is_known known q || is_known known r

abbrev pub is_met_in : List Bool → Option Condition → Bool
is_met_in known None = false
is_met_in known (Some q) = is_met known q

abbrev pub is_met_at : List Condition → List Bool → ℕ → Bool
is_met_at system known u = is_met_in known (slice_get system u)

-- it names one of those that wait
abbrev pub NamesOne : List Condition → List ℕ → ℕ → Type 0
NamesOne system waiting u = (p : ℕ) × Among p waiting × Names system u p

-- What is known is derived; those that wait are known; and what is derived by what is known is known, or names one of those
-- that wait, or is still to be looked at.
pub record Spreads (system : List Condition) (Left : ℕ → Type 0) (known : List Bool) (waiting : List ℕ) : Type 0 where
  pub size : length known ≡ length system
  pub sound : (u : ℕ) → is_known known u ≡ true → Derives system u
  pub waits : (u : ℕ) → Among u waiting → is_known known u ≡ true
  pub rest : (u : ℕ) → is_met_at system known u ≡ true → (is_known known u ≡ true) ⊎ (NamesOne system waiting u ⊎ Left u)

-- The condition at p was looked at: it was known, or isn't met, and all stays; or it is known now, and waits.
abbrev pub HasLooked : List Condition → ℕ → (known new : List Bool) → (waiting now : List ℕ) → Type 0
HasLooked system p known new waiting now =
    ((new ≡ known) × (now ≡ waiting) × (is_met_at system known p ≡ true → p < length known → is_known known p ≡ true))
    ⊎ ((p < length known) × (is_met_at system known p ≡ true) × (new ≡ set known p true) × (now ≡ waiting ++ p ∷ []))
