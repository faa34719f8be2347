-- What questions change.
use Rattle.std.specs.Prelude.{◌||◌, ℕ, Bool, false, Option, None, Some, nat_lt}
use Rattle.at_cache.specs.Kept.{Entries}
use Rattle.at_cache.specs.Traced.{Memories}

-- what is kept, what can be kept again, the work up to now, and how many values were made
pub record State : Type 0 where
  pub entries : Entries
  pub memories : Memories
  pub work : ℕ
  pub made : ℕ

-- by a keeper and these numbers
abbrev pub state_by : {K : Type 0} → (K → Entries) → (K → Memories) → K → (work made : ℕ) → State
state_by entries memories keeper work made = record { entries = entries keeper; memories = memories keeper; work = work; made = made }

-- whether more entries are in memory than a bound allows
abbrev pub is_over : (most : Option ℕ) → (count : ℕ) → Bool
is_over None count = false
is_over (Some most) count = nat_lt most count

-- whether an edit lets go of what can be kept again, whatever it touches: more is in memory than the bound allows, or much more than is kept
abbrev pub lets_go : (most : Option ℕ) → Memories → Bool
lets_go most m = is_over most m.count || m.crowded
