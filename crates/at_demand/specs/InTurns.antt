-- What turns put, and what becomes by that of what can be kept again.
use Rattle.std.specs.Prelude.{◌≡◌, ◌≤◌, ◌+◌, ◌-◌, ◌^◌, ◌⊎◌, ℕ, List, length}
use Rattle.at_model.specs.Run.{Instance}
use Rattle.at_cache.specs.Kept.{Entries}
use Rattle.at_cache.specs.Traced.{IsOutdated, Memories, SparesOthers, StayTraced, Trace}
use Rattle.at_evaluate.specs.Sparing.{AreGained}

-- Nothing was traced, and values were put in turns, one behind the other: each spares what others could be kept again by.
pub data PutsInTurns (old : Memories) : Memories → Type 0 where
  nothing : PutsInTurns old old
  one_more : (mid new : Memories) (i : Instance ℕ) (after : Entries) → PutsInTurns old mid → SparesOthers i after mid new → StayTraced mid new
      → PutsInTurns old new

-- The number tells how many values came to be kept, and stays at the greatest one.
pub record CountsKept (entries after : Entries) (before later : ℕ) : Type 0 where
  pub made : List (Instance ℕ)
  pub gained : AreGained entries after made
  pub count : (later ≡ before + length made) ⊎ (2 ^ 64 - 1 ≤ later)

-- one of them was of i itself, or gave something that was used for the trace another value
pub data WasPut (i : Instance ℕ) (t : Trace) (old : Memories) : (new : Memories) → PutsInTurns old new → Type 0 where
  itself : (n o : Memories) (e : Entries) (p : PutsInTurns old n) (s : SparesOthers i e n o) (stay : StayTraced n o)
      → WasPut i t old o (one_more n o i e p s stay)
  another : (n o : Memories) (j : Instance ℕ) (e : Entries) (p : PutsInTurns old n) (s : SparesOthers j e n o) (stay : StayTraced n o)
      → IsOutdated n o t → WasPut i t old o (one_more n o j e p s stay)
  earlier : (n o : Memories) (j : Instance ℕ) (e : Entries) (p : PutsInTurns old n) (s : SparesOthers j e n o) (stay : StayTraced n o)
      → WasPut i t old n p → WasPut i t old o (one_more n o j e p s stay)

-- a turn comes to that, and puts values so; nothing is counted yet
pub record PutsSo (Turn : Type 0) (former latter : Memories) : Type 0 where
  pub turned : Turn
  pub traces : PutsInTurns former latter
