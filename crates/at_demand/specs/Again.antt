-- What is kept again with no evaluation.
use Rattle.std.specs.Prelude.{◌≡◌, ◌+◌, ◌-◌, ◌^◌, ℕ, min}
use Rattle.at_model.specs.Run.{Instance}
use Rattle.at_cache.specs.Kept.{Entries}
use Rattle.at_cache.specs.Traced.{AreAlike, Memories, Settled, StayTraced}

-- What could be kept again of q, of what it used, and so on, came to be kept, one behind the other and with no evaluation: each had no entry,
-- and all that was used for it was kept.
abbrev pub KeepsAgain : Memories → (q : Instance ℕ) → (old new : Entries) → Type 0
KeepsAgain m q old new = (count : ℕ) × Settled m q count old new

-- What can be kept again of q, of what it used, and so on, came to be kept; the work counts it, and the memories are the same, or less.
pub record HasKeptAgain (former latter : Memories) (before after : Entries) (earlier later : ℕ) (q : Instance ℕ) : Type 0 where
  pub count : ℕ
  pub settled : Settled former q count before after
  pub counts : later ≡ min (earlier + count) (2 ^ 64 - 1)
  pub stay : StayTraced former latter
  pub alike : AreAlike former latter
