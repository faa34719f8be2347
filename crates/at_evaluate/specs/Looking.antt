-- Evaluations that look at locations and demand nothing.
use Rattle.std.specs.Prelude.{◌≡◌, ◌++◌, ℕ, List, Option, Some, None}
use Rattle.at_model.specs.Run.{Contents, Location, LooksTo, Run, Value}
use Rattle.at_model.specs.Follow.{Ends, follow}
use Rattle.at_body.specs.Values.{value_view}
use Rattle.at_body.specs.declared.value.Value.{Value as ValueCode}

-- by looks alone the evaluation comes to a, and what it looked at stands behind the old reads
abbrev pub HasLooked : {A : Type 0} → Contents ℕ → (old new : List (Location ℕ)) → Run ℕ A → A → Type 0
HasLooked look old new r a = follow look old r ≡ (Ends a, new)

-- By looks alone the evaluation r comes to s, and what it looked at stands behind the old reads.
pub record HasBegun {A : Type 0} (look : Contents ℕ) (old new : List (Location ℕ)) (r s : Run ℕ A) : Type 0 where
  pub looks : List (Location ℕ)
  pub goes : LooksTo look r looks s
  pub reads : new ≡ old ++ looks

-- by looks alone the evaluation comes to the value, or nothing was looked at
abbrev pub MayHaveLooked : Contents ℕ → (old new : List (Location ℕ)) → Run ℕ (Value ℕ) → Option ValueCode → Type 0
MayHaveLooked look old new r None = new ≡ old
MayHaveLooked look old new r (Some v) = HasLooked look old new r (value_view v)
