-- Why an instance came to be known for a question that a circle answers.
use Rattle.std.specs.Prelude.{◌≡◌, ◌⊎◌, ℕ, ◌∷◌, Some}
use Rattle.at_model.specs.Run.{Instance, Contents, Known, Value}
use Rattle.at_model.specs.Meaning.{Among, Outcome}
use Rattle.at_model.specs.of_fixpoints.Formulas.{Forms}
use Rattle.at_model.specs.of_fixpoints.Met.{HaveLookedAt, IsLookedAt, IsMet}
use Rattle.at_model.specs.of_fixpoints.Resting.{Leads}
use Rattle.at_model.specs.of_fixpoints.Searching.{Search}

-- one whose value was known at first leads to it
abbrev pub IsBelowFirst : Contents ℕ → Forms ℕ → Known ℕ → Instance ℕ → Type 0
IsBelowFirst look forms first i = (c : Instance ℕ) × (v : Value ℕ) × (first c ≡ Some v) × Leads look forms c i

-- so it is, or the question has met it
abbrev pub HasReason : Contents ℕ → Forms ℕ → Known ℕ → (q i : Instance ℕ) → Type 0
HasReason look forms first q i = IsBelowFirst look forms first i ⊎ IsMet look forms q i

-- so it is, or the search for the question looks at it
abbrev pub IsReached : Contents ℕ → Forms ℕ → Known ℕ → (q i : Instance ℕ) → Type 0
IsReached look forms first q i = HasReason look forms first q i ⊎ IsLookedAt look forms q i

-- The search for the question has come so far with reason: each level has looked at what it looks at where it passes nothing, but for what
-- has a reason; all that was told has one, and all that has ended was reached.
pub record HasReasons (look : Contents ℕ) (forms : Forms ℕ) (first : Known ℕ) (q : Instance ℕ) (u : Search ℕ) : Type 0 where
  pub looked : HaveLookedAt look forms (HasReason look forms first q) (u.last ∷ u.below)
  pub told : (i : Instance ℕ) (o : Outcome ℕ) → Among (i, o) u.told → HasReason look forms first q i
  pub ended : (i : Instance ℕ) → Among i u.ended → IsReached look forms first q i
