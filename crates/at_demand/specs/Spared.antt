-- What an edit leaves of what is kept.
use Rattle.std.specs.Prelude.{◌≡◌, ◌↔◌, ℕ, false, Some}
use Rattle.at_model.specs.Run.{Instance, Location}
use Rattle.at_model.specs.Rules.{Rules}
use Rattle.at_model.specs.of_fixpoints.Resting.{Supports}
use Rattle.at_model.specs.Edits.{Edit}
use Rattle.at_store.specs.Shown.{Shown, contents}
use Rattle.at_cache.specs.Kept.{Kept, Entries}
use Rattle.at_evaluate.specs.Valued.{meaning}
use Rattle.at_demand.specs.Touched.{Touches}

-- the edit touches nothing that supports the instance
abbrev pub IsUntouched : Rules → Shown → Edit → Instance ℕ → Type 0
IsUntouched rules s e i = (l : Location ℕ) → Supports (contents s) (meaning rules) l i → Touches s e l false

-- just the entries of untouched instances are left
abbrev pub LeavesJust : Rules → Shown → Edit → (old new : Entries) → Type 0
LeavesJust rules s e old new = (i : Instance ℕ) (k : Kept) → (new i ≡ Some k) ↔ ((old i ≡ Some k) × IsUntouched rules s e i)
