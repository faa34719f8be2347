-- Which values were found by evaluations, why these weren't kept again, and that all others were.
use Rattle.std.specs.Prelude.{◌≡◌, ◌≤◌, ◌+◌, ◌-◌, ◌^◌, ◌⊎◌, ℕ, List, length, None, Some, IsSome}
use Rattle.at_model.specs.Run.{Instance, Value}
use Rattle.at_model.specs.Meaning.{Among, Distinct}
use Rattle.at_cache.specs.Kept.{Entries}
use Rattle.at_cache.specs.Traced.{IsOutdated, IsSpared, Memories, Trace}
use Rattle.at_evaluate.specs.Valued.{kept_values}

-- the instance could be kept again with that value
abbrev pub HasTrace : Memories → Instance ℕ → Value ℕ → Type 0
HasTrace m i v = (t : Trace) × (m.traced i ≡ Some t) × (t.value ≡ v)

-- Meanwhile the instances of the list were made, each once: evaluated to their end, and put, where they had no entry. One that could be kept
-- again before was outdated, and what could be kept again still can, or is outdated. What came to be kept and isn't in the list could be kept
-- again before, with the value that it has. No trace came and no last value is another one but of what was put. The number tells how many were
-- made, and stays at the greatest one.
pub record Makes (entries after : Entries) (old new : Memories) (before later : ℕ) : Type 0 where
  pub made : List (Instance ℕ)
  pub came : (i : Instance ℕ) → Among i made → (entries i ≡ None) × IsSome (after i)
  pub once : Distinct made
  pub reason : (i : Instance ℕ) (t : Trace) → Among i made → old.traced i ≡ Some t → IsOutdated old new t
  pub spares : (i : Instance ℕ) (t : Trace) → old.traced i ≡ Some t → IsSpared old new i t
  pub last : (u : Instance ℕ) → (new.last u ≡ old.last u) ⊎ ((entries u ≡ None) × IsSome (after u))
  pub rest : (i : Instance ℕ) (v : Value ℕ) → kept_values entries i ≡ None → kept_values after i ≡ Some v → Among i made ⊎ HasTrace old i v
  pub fresh : (i : Instance ℕ) (t : Trace) → new.traced i ≡ Some t → (old.traced i ≡ Some t) ⊎ ((entries i ≡ None) × IsSome (after i))
  pub count : (later ≡ before + length made) ⊎ (2 ^ 64 - 1 ≤ later)
