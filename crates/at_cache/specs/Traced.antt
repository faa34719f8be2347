-- What a keeper remembers beside what it keeps, so that a value can be kept again where nothing that it rests on has changed.
use Rattle.std.specs.Prelude.{◌≡◌, ◌≢◌, ◌⊎◌, ◌++◌, ◌∷◌, ℕ, zero, suc, List, Bool, true, false, Option, Some, None, IsSome, Contains}
use Rattle.std.specs.List.{list_any}
use Rattle.at_model.specs.Run.{Value, Instance, Location}
use Rattle.at_cache.specs.declared.keeper.Order.{Order}
use Rattle.at_cache.specs.declared.keeper.Order.TheVariants as order
use Rattle.at_cache.specs.Kept.{Entries, PutsBy, value_at}
use Rattle.at_index.specs.Sameness.{same_location}

-- the value of an instance, the locations that were looked at for it, and the instances that were taken for it, in order
pub record Trace : Type 0 where
  pub value : Value ℕ
  pub reads : Location ℕ → Bool
  pub uses : List (Instance ℕ)

-- what can be kept again, each with its trace, and the last value that an instance was put with; whether turns of posted questions keep
-- again what can be, too; and how many entries are in memory, kept or not, and whether these are much more than what is kept
pub record Memories : Type 0 where
  pub traced : Instance ℕ → Option Trace
  pub last : Instance ℕ → Option (Value ℕ)
  pub in_turns : Bool
  pub count : ℕ
  pub crowded : Bool

-- nothing is traced
abbrev pub TracesNothing : Memories → Type 0
TracesNothing m = (i : Instance ℕ) → m.traced i ≡ None

-- only what has an entry is traced
abbrev pub TracesKept : Entries → Memories → Type 0
TracesKept entries m = (i : Instance ℕ) (t : Trace) → m.traced i ≡ Some t → IsSome (entries i)

-- The trace of i was there, and its last value and those of what it used are the same.
pub record IsStill (old new : Memories) (i : Instance ℕ) (t : Trace) : Type 0 where
  pub traced : old.traced i ≡ Some t
  pub value : new.last i ≡ old.last i
  pub uses : (u : Instance ℕ) → Contains t.uses u → new.last u ≡ old.last u

-- each trace was there, over the same last values
abbrev pub StayTraced : (old new : Memories) → Type 0
StayTraced old new = (i : Instance ℕ) (t : Trace) → new.traced i ≡ Some t → IsStill old new i t

-- The trace is of what was put: of that value, for these reads, and these uses, as they were taken.
pub record IsTraceOf (i : Instance ℕ) (v : Option (Value ℕ)) (looked : List (Location ℕ)) (taken : List (Instance ℕ)) (o : Order)
    (new : Memories) (t : Trace) : Type 0 where
  pub ordered : o ≡ order.AsTaken
  pub value : v ≡ Some t.value
  pub last : new.last i ≡ Some t.value
  pub reads : (l : Location ℕ) → t.reads l ≡ list_any (same_location l) looked
  pub uses : t.uses ≡ taken

-- where i was put, each trace was there, over the same last values, or is that of i
abbrev pub PutsTrace : (i : Instance ℕ) (v : Option (Value ℕ)) (reads : List (Location ℕ)) (uses : List (Instance ℕ)) → Order
    → (old new : Memories) → Type 0
PutsTrace i v reads uses o old new = (j : Instance ℕ) (t : Trace) → new.traced j ≡ Some t
    → IsStill old new j t ⊎ ((i ≡ j) × IsTraceOf i v reads uses o new t)

-- each trace was there, over the same last values, and each location that was looked at for it has the answer `false`
abbrev pub FlushesTraces : (says : Location ℕ → Bool → Type 0) (old new : Memories) → Type 0
FlushesTraces says old new = (i : Instance ℕ) (t : Trace) → new.traced i ≡ Some t
    → IsStill old new i t × ((l : Location ℕ) → t.reads l ≡ true → says l false)

-- something that was used for the trace has another last value since
pub record IsOutdated (old new : Memories) (t : Trace) : Type 0 where
  pub one : Instance ℕ
  pub used : Contains t.uses one
  pub another : new.last one ≢ old.last one

-- The trace is there still, or outdated.
abbrev pub IsSpared : (old new : Memories) → Instance ℕ → Trace → Type 0
IsSpared old new i t = (new.traced i ≡ Some t) ⊎ IsOutdated old new t

-- Where i was put, each other trace is spared; and no last value is another one but that of i, which has an entry then.
pub record SparesOthers (i : Instance ℕ) (after : Entries) (old new : Memories) : Type 0 where
  pub spares : (j : Instance ℕ) (t : Trace) → (i ≡ j → ⊥) → old.traced j ≡ Some t → IsSpared old new j t
  pub last : (u : Instance ℕ) → (new.last u ≡ old.last u) ⊎ ((i ≡ u) × IsSome (after i))

-- the trace of i is there still, if there is one
abbrev pub KeepsTrace : Instance ℕ → (old new : Memories) → Type 0
KeepsTrace i old new = (t : Trace) → old.traced i ≡ Some t → new.traced i ≡ Some t

-- An edit takes no trace but those for which a location with the answer `true` was looked at, and others where much more is in memory than is
-- kept.
abbrev pub SparesAtEdit : (says : Location ℕ → Bool → Type 0) (crowded : Bool) (old new : Memories) → Type 0
SparesAtEdit says crowded old new = (i : Instance ℕ) (t : Trace) → old.traced i ≡ Some t
    → (new.traced i ≡ Some t) ⊎ (((l : Location ℕ) × (t.reads l ≡ true) × says l true) ⊎ ((crowded ≡ true) × (new.traced i ≡ None)))

-- the same traces, and the same last values
pub record AreAlike (old new : Memories) : Type 0 where
  pub traced : (i : Instance ℕ) → new.traced i ≡ old.traced i
  pub last : (i : Instance ℕ) → new.last i ≡ old.last i

-- a value of each of the instances is kept
abbrev pub AreAllKept : Entries → List (Instance ℕ) → Type 0
AreAllKept entries us = (u : Instance ℕ) → Contains us u → IsSome (value_at (entries u))

-- from q on over what was used, before each of which all are kept
pub data IsNext (m : Memories) (entries : Entries) (q : Instance ℕ) : Instance ℕ → Type 0 where
  itself : IsNext m entries q q
  below : (j u : Instance ℕ) (t : Trace) (front back : List (Instance ℕ)) → IsNext m entries q j → m.traced j ≡ Some t
      → t.uses ≡ front ++ u ∷ back → AreAllKept entries front → IsNext m entries q u

-- So many entries came, one behind the other: each of an instance that had none, with the value, the reads and the uses of its trace, once
-- all that it used was kept.
pub data Settled (m : Memories) (q : Instance ℕ) : ℕ → Entries → Entries → Type 0 where
  nothing : (entries : Entries) → Settled m q zero entries entries
  one_more : (n : ℕ) (old mid new : Entries) (i : Instance ℕ) (t : Trace) → Settled m q n old mid → IsNext m mid q i → m.traced i ≡ Some t
      → mid i ≡ None → AreAllKept mid t.uses → PutsBy mid i (Some t.value) t.reads t.uses new → Settled m q (suc n) old new
