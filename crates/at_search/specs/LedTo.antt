-- What formulas lead to, as far as it is recorded.
use Rattle.std.specs.Prelude.{◌≡◌, ◌⊎◌, ℕ, Bool, true, false, List, None, IsSome}
use Rattle.std.specs.Map.{lookup}
use Rattle.at_model.specs.Run.{Instance, Known}
use Rattle.at_model.specs.Meaning.{Among}
use Rattle.at_model.specs.of_fixpoints.Formulas.{Formula}
use Rattle.at_model.specs.of_fixpoints.Fixpoints.{End, LeadsOver}
use Rattle.at_model.specs.of_fixpoints.Searched.{EndsWell, IsMade}
use Rattle.at_body.specs.Same.{same_instance}
use Rattle.at_search.specs.declared.ended.Ended.{Ended}
use Rattle.at_search.specs.declared.search.Search.{Search}
use Rattle.at_search.specs.Recorded.{Recorded, IsSettled, seen_by, todo_of}

-- the equation of each of these is recorded, and formulas lead from these to none but these and what is settled
abbrev pub AreClosedIn : Known ℕ → List (Instance ℕ × Ended) → List (Instance ℕ) → Type 0
AreClosedIn known ended set = (i : Instance ℕ) → Among i set →
    EndsWell (Recorded ended) (λ e. Unit {0}) (λ k. Among k set ⊎ IsSettled known ended k) i

-- These are closed so. The instance is one of them, or settled, and leads to each; and none of them is settled.
pub record IsClosure (known : Known ℕ) (ended : List (Instance ℕ × Ended)) (i : Instance ℕ) (set : List (Instance ℕ)) : Type 0 where
  pub first : Among i set ⊎ IsSettled known ended i
  pub closed : AreClosedIn known ended set
  pub led : (j : Instance ℕ) → Among j set → LeadsOver (Recorded ended) i j
  pub unsettled : (j : Instance ℕ) → Among j set → ¬ (IsSettled known ended j)

-- its equation is recorded to have ended so, and it isn't settled
abbrev pub RecordedOpen : (Settled : Instance ℕ → Type 0) → List (Instance ℕ × Ended) → Instance ℕ → End ℕ (Formula ℕ) → Type 0
RecordedOpen Settled ended i e = (¬ (Settled i)) × Recorded ended i e

-- formulas lead from it, over none that is settled, to an instance that isn't settled either, and of whose equation nothing is recorded
pub record LeadsOut (Settled : Instance ℕ → Type 0) (ended : List (Instance ℕ × Ended)) (i : Instance ℕ) : Type 0 where
  pub to : Instance ℕ
  pub led : LeadsOver (RecordedOpen Settled ended) i to
  pub unsettled : ¬ (Settled to)
  pub unrecorded : lookup (same_instance to) ended ≡ None

-- it was seen, or nothing is to be looked at there, or it is to be looked at
abbrev pub IsMet : (Settled : Instance ℕ → Type 0) → (seen todo : List (Instance ℕ)) → Instance ℕ → Type 0
IsMet Settled seen todo k = Among k seen ⊎ (Settled k ⊎ Among k todo)

-- A search from an instance has come so far: the equations of those that were seen ended in such a way, and formulas lead from them to
-- none but these, what is settled, and those that are to do; to these and those they lead from the first one, over none that is settled.
pub record IsSearching (Settled : Instance ℕ → Type 0) (Good : End ℕ (Formula ℕ) → Type 0) (ended : List (Instance ℕ × Ended)) (i : Instance ℕ)
    (seen todo : List (Instance ℕ)) : Type 0 where
  pub first : IsMet Settled seen todo i
  pub closed : (j : Instance ℕ) → Among j seen → EndsWell (Recorded ended) Good (IsMet Settled seen todo) j
  pub led : (j : Instance ℕ) → Among j seen ⊎ Among j todo → LeadsOver (RecordedOpen Settled ended) i j
  pub unsettled : (j : Instance ℕ) → Among j seen → ¬ (Settled j)

-- a search for all that formulas lead to, not beyond what is settled
abbrev pub IsGathering : Known ℕ → List (Instance ℕ × Ended) → Instance ℕ → (seen todo : List (Instance ℕ)) → Type 0
IsGathering known ended i seen todo = IsSearching (IsSettled known ended) (λ e. Unit {0}) ended i seen todo

-- a search for a fault, which has met none, and stops at what is known alone
abbrev pub IsFaultless : Known ℕ → List (Instance ℕ × Ended) → Instance ℕ → (seen todo : List (Instance ℕ)) → Type 0
IsFaultless known ended i seen todo = IsSearching (λ k. IsSome (known k)) IsMade ended i seen todo

-- it has come further, or has come to what isn't recorded
abbrev pub HasGathered : Known ℕ → List (Instance ℕ × Ended) → Instance ℕ → Search → Bool → Type 0
HasGathered known ended i s true = IsGathering known ended i (seen_by s) (todo_of s)
HasGathered known ended i s false = LeadsOut (IsSettled known ended) ended i

-- it has come further, if it has met no fault; or it has come to what isn't recorded
abbrev pub HasLookedOn : Known ℕ → List (Instance ℕ × Ended) → Instance ℕ → Search → Bool → Type 0
HasLookedOn known ended i s true = s.fault ≡ None → IsFaultless known ended i (seen_by s) (todo_of s)
HasLookedOn known ended i s false = LeadsOut (λ k. IsSome (known k)) ended i
