-- What a keeper keeps, and the laws of its calls.
use Rattle.std.specs.Prelude.{◌≡◌, ℕ, List, Bool, true, false, ◌||◌, ◌⊎◌, Option, Some, None, IsSome, Contains, option_and_then, if◌then◌else◌}
use Rattle.std.specs.List.{list_any}
use Rattle.at_model.specs.Run.{Value, Instance, Location}
use Rattle.at_store.specs.declared.node.Loc.{Loc}
use Rattle.at_body.specs.Same.{same_instance}
use Rattle.at_index.specs.Sameness.{same_location}
use Rattle.at_store.specs.Located.{loc_view}
use Rattle.at_store.specs.Places.{named}
use Rattle.at_store.specs.declared.places.Places.{Places}

-- what stands ready of an instance: its value, where that is kept, and the locations that the entry stands for
pub record Kept : Type 0 where
  pub value : Option (Value ℕ)
  pub covers : Location ℕ → Bool

-- the entries of a keeper
abbrev pub Entries : Type 0
Entries = Instance ℕ → Option Kept

-- the value that the entry has, if there is one
abbrev pub value_at : Option Kept → Option (Value ℕ)
value_at o = option_and_then (λ k. k.value) o

-- whether the entry stands for the location
abbrev pub covers_at : Option Kept → Location ℕ → Bool
covers_at None l = false
covers_at (Some k) l = k.covers l

-- whether the location is one of these, or one that an entry of the uses stands for
abbrev pub covered_by : Entries → (Location ℕ → Bool) → List (Instance ℕ) → Location ℕ → Bool
covered_by entries reads uses l = reads l || list_any (λ u. covers_at (entries u) l) uses

-- the same of a list of locations
abbrev pub covered : Entries → List (Location ℕ) → List (Instance ℕ) → Location ℕ → Bool
covered entries reads uses l = covered_by entries (λ m. list_any (same_location m) reads) uses l

-- `new` has what `old` has
abbrev pub KeepsAll : (old new : Entries) → Type 0
KeepsAll old new = (i : Instance ℕ) → new i ≡ old i

-- `new` has one entry more: i with the value, or without one, standing for just the reads and all that the uses stand for
pub record PutsBy (old : Entries) (i : Instance ℕ) (v : Option (Value ℕ)) (reads : Location ℕ → Bool) (uses : List (Instance ℕ))
    (new : Entries) : Type 0 where
  pub entry : Kept
  pub value : entry.value ≡ v
  pub covers : (l : Location ℕ) → covered_by old reads uses l ≡ true → entry.covers l ≡ true
  pub only : (l : Location ℕ) → entry.covers l ≡ true → covered_by old reads uses l ≡ true
  pub adds : (j : Instance ℕ) → new j ≡ (if same_instance i j then Some entry else old j)

-- the same with a list of reads
abbrev pub Puts : (old : Entries) → Instance ℕ → Option (Value ℕ) → (reads : List (Location ℕ)) (uses : List (Instance ℕ))
    → (new : Entries) → Type 0
Puts old i v reads uses new = PutsBy old i v (λ l. list_any (same_location l) reads) uses new

-- what is kept was kept just so
abbrev pub LeavesKept : (old new : Entries) → Type 0
LeavesKept old new = (i : Instance ℕ) (k : Kept) → new i ≡ Some k → old i ≡ Some k

-- each of the instances has an entry
abbrev pub AreKept : Entries → List (Instance ℕ) → Type 0
AreKept entries uses = (u : Instance ℕ) → Contains uses u → IsSome (entries u)

-- of what isn't named the closure answers `false`
abbrev pub AreNamed : Places → (post : Loc → Bool → Type 0) → Type 0
AreNamed places post = (x : Loc) → named places (loc_view x) ≡ false → post x false

-- an entry of `new` is one of `old`, and each location that it stands for has the answer `false`
abbrev pub LeavesUntouched : (says : Location ℕ → Bool → Type 0) (old new : Entries) → Type 0
LeavesUntouched says old new = (i : Instance ℕ) (k : Kept) → new i ≡ Some k → (old i ≡ Some k) × ((l : Location ℕ) → k.covers l ≡ true → says l false)

-- an entry of `old` is one of `new`, or stands for a location with the answer `true`
abbrev pub LosesTouched : (says : Location ℕ → Bool → Type 0) (old new : Entries) → Type 0
LosesTouched says old new = (i : Instance ℕ) (k : Kept) → old i ≡ Some k → (new i ≡ Some k) ⊎ ((l : Location ℕ) × (k.covers l ≡ true) × says l true)
