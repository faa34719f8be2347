-- How little of what is kept is enough, how much an evaluation adds to it, and the work that counts that: what `at_model` says of
-- paths, by numbers.
use Rattle.std.specs.Prelude.{◌≡◌, ◌↔◌, ℕ, ◌+◌, ◌-◌, ◌^◌, min, true, List, length, Some, None, IsSome}
use Rattle.at_model.specs.Run.{Value, Instance, Location, Contents}
use Rattle.at_model.specs.Rules.{Rules, is_lazy}
use Rattle.at_model.specs.Meaning.{Among, Distinct}
use Rattle.at_model.specs.of_fixpoints.Fixpoints.{HasValue}
use Rattle.at_model.specs.of_fixpoints.Resting.{Leads}
use Rattle.at_model.specs.of_fixpoints.Resting.{Supports}
use Rattle.at_cache.specs.Kept.{Kept, Entries}
use Rattle.at_evaluate.specs.Valued.{meaning, kept_values, IsKept, KeepsEntries}

-- with each entry of these all lazy instances to which its own leads are kept among those
abbrev pub IsDeep : Rules → Contents ℕ → (these those : Entries) → Type 0
IsDeep rules look these those = (i j : Instance ℕ) → IsSome (these i) → Leads look (meaning rules) i j → is_lazy rules j.attribute ≡ true → IsKept those j

-- each entry stands for no other locations than those that support its instance
abbrev pub AreOnly : Rules → Contents ℕ → Entries → Type 0
AreOnly rules look entries = (i : Instance ℕ) (k : Kept) → entries i ≡ Some k → (l : Location ℕ) → k.covers l ≡ true → Supports look (meaning rules) l i

-- Each entry stands for no location that doesn't support its instance, all lazy instances to which that leads are kept, and what
-- is kept is lazy.
pub record AreSpare (rules : Rules) (look : Contents ℕ) (entries : Entries) : Type 0 where
  pub only : AreOnly rules look entries
  pub lazy : (i : Instance ℕ) → IsKept entries i → is_lazy rules i.attribute ≡ true
  pub deep : IsDeep rules look entries entries

-- The instance is worthy of the question: that leads to it, and it is lazy and has a value.
pub record IsWorthy (rules : Rules) (look : Contents ℕ) (q i : Instance ℕ) : Type 0 where
  pub reached : Leads look (meaning rules) q i
  pub lazy : is_lazy rules i.attribute ≡ true
  pub value : Value ℕ
  pub has : HasValue look (meaning rules) i value

-- `new` has what `old` has, and what is kept beside that is worthy of the question
pub record AddsWorthy (rules : Rules) (look : Contents ℕ) (q : Instance ℕ) (old new : Entries) : Type 0 where
  pub stays : KeepsEntries old new
  pub worthy : (i : Instance ℕ) → kept_values old i ≡ None → IsKept new i → IsWorthy rules look q i

-- all that is worthy of the question is kept
abbrev pub HasWorthy : Rules → Contents ℕ → Instance ℕ → Entries → Type 0
HasWorthy rules look q entries = (i : Instance ℕ) → IsWorthy rules look q i → IsKept entries i

-- the list has each instance once that `new` keeps and `old` doesn't; what `old` has stays
pub record AreGained (old new : Entries) (gained : List (Instance ℕ)) : Type 0 where
  pub distinct : Distinct gained
  pub exactly : (i : Instance ℕ) → Among i gained ↔ (IsKept new i × (kept_values old i ≡ None))
  pub stays : KeepsEntries old new

-- the work grows by the number of these instances, and stays at the greatest number
abbrev pub Counts : (old new : Entries) (work later : ℕ) → Type 0
Counts old new work later = (gained : List (Instance ℕ)) × AreGained old new gained × (later ≡ min (work + length gained) (2 ^ 64 - 1))
