-- What is worth keeping for a question, what may come to what is kept in a step of it, and the work that counts that.
use Rattle.std.specs.Prelude.{◌≡◌, ◌⊎◌, ◌↔◌, ℕ, ◌+◌, ◌-◌, ◌^◌, min, true, List, length, slice_get, Some, None, IsSome}
use Rattle.at_model.specs.Run.{Instance, Contents}
use Rattle.at_model.specs.Rules.{Rules, is_lazy}
use Rattle.at_model.specs.Meaning.{Among, Distinct}
use Rattle.at_model.specs.of_fixpoints.Circles.{Circular}
use Rattle.at_model.specs.of_fixpoints.Met.{IsMet}
use Rattle.at_cache.specs.Kept.{Entries}
use Rattle.at_demand.specs.declared.evaluation.Find.{Find}
use Rattle.at_evaluate.specs.Valued.{meaning, kept_values, IsKept, KeepsEntries}
use Rattle.at_demand.specs.Known.{IsFound}
use Rattle.at_evaluate.specs.Sparing.{IsWorthy}

-- The instance is worthy of the question, and where a circle answers that, its search has met the instance before: it is worth keeping.
pub record IsWorthKeeping (rules : Rules) (look : Contents ℕ) (q i : Instance ℕ) : Type 0 where
  pub worthy : IsWorthy rules look q i
  pub before : (c : Instance ℕ) → Circular look (meaning rules) q c → IsMet look (meaning rules) q i

-- `new` keeps what `old` keeps, and may keep i beside it, where it is lazy
abbrev pub MayAddLazy : Rules → (old new : Entries) → Instance ℕ → Type 0
MayAddLazy rules old new i = (j : Instance ℕ) → (kept_values new j ≡ kept_values old j) ⊎ ((i ≡ j) × IsKept new j × (is_lazy rules i.attribute ≡ true))

-- `new` has what `old` has; beside that it may keep i, where it is lazy, and have entries of instances that were found
pub record MayGain (rules : Rules) (found : List (Instance ℕ × Find)) (old new : Entries) (i : Instance ℕ) : Type 0 where
  pub stays : KeepsEntries old new
  pub lazy : MayAddLazy rules old new i
  pub comes : (j : Instance ℕ) → IsSome (new j) → IsSome (old j) ⊎ (((i ≡ j) × IsKept new j) ⊎ IsFound found j)

-- The find's instance is kept where it is lazy, and what its evaluation took of what is kept has an entry.
pub record IsSettled (rules : Rules) (entries : Entries) (i : Instance ℕ) (f : Find) : Type 0 where
  pub lazy : is_lazy rules i.attribute ≡ true → IsKept entries i
  pub took : (u : Instance ℕ) → Among u f.demanded.kept.items → IsSome (entries u)

abbrev pub AreSettled : Rules → Entries → List (Instance ℕ × Find) → Type 0
AreSettled rules entries found = (p : ℕ) (i : Instance ℕ) (f : Find) → slice_get found p ≡ Some (i, f) → IsSettled rules entries i f

-- the list has each instance once that is worth keeping and was not kept
pub record AreAdded (rules : Rules) (look : Contents ℕ) (q : Instance ℕ) (old : Entries) (added : List (Instance ℕ)) : Type 0 where
  pub distinct : Distinct added
  pub exactly : (i : Instance ℕ) → Among i added ↔ (IsWorthKeeping rules look q i × (kept_values old i ≡ None))

-- the work grows by the number of these
abbrev pub IsWork : Rules → Contents ℕ → Instance ℕ → (old : Entries) (work later : ℕ) → Type 0
IsWork rules look q old work later = (added : List (Instance ℕ)) × AreAdded rules look q old added × (later ≡ min (work + length added) (2 ^ 64 - 1))
