-- A flush under way: what is left of the entries, of which some are going.
use Rattle.std.specs.Prelude.{◌≡◌, ◌&&◌, ◌⊎◌, ℕ, List, [], ◌∷◌, Bool, true, false, not, Option, None, Some, option_map, nat_eq, if◌then◌else◌, Contains}
use Rattle.at_index.specs.declared.edge.Edge.{Edge}
use Rattle.at_model.specs.Run.{Location}
use Rattle.at_cache.specs.Info.{Info, Memory}

-- the edge tells of what is in this slot, which isn't going yet
abbrev pub is_fresh : Edge → Option Info → Bool
is_fresh x None = false
is_fresh x (Some e) = nat_eq e.stamp x.stamp && not e.going

-- the entry goes, before these
abbrev pub doomed : Option ℕ → Info → Info
doomed first e = record e { going = true; next = first }

-- what the edge tells of goes
abbrev pub dooms : Edge → Option ℕ → Memory → Memory
dooms x first m k = if nat_eq k x.slot && is_fresh x (m k) then option_map (doomed first) (m k) else m k

abbrev pub first_after : Edge → Option ℕ → Memory → Option ℕ
first_after x first m = if is_fresh x (m x.slot) then Some x.slot else first

-- those that are going, from the first one on
abbrev pub IsChain : Memory → Option ℕ → List ℕ → Type 0
IsChain m first [] = first ≡ None
IsChain m first (s ∷ ss) = (first ≡ Some s) × ((e : Info) × (m s ≡ Some e) × (e.going ≡ true) × IsChain m e.next ss) × (Contains ss s → ⊥)

-- but for the marks of the flush they are one
pub record IsSame (old new : Info) : Type 0 where
  pub instance : new.instance ≡ old.instance
  pub value : new.value ≡ old.value
  pub links : new.links ≡ old.links
  pub stamp : new.stamp ≡ old.stamp
  pub since : new.since ≡ old.since
  pub users : new.users ≡ old.users

-- what the edge tells of is going, or isn't there any more
abbrev pub IsDoomed : Memory → Edge → Type 0
IsDoomed m x = (e : Info) → m x.slot ≡ Some e → e.stamp ≡ x.stamp → e.going ≡ true

-- An edge of the start tells of the entry in the slot, or an edge to one that used an entry which is reached so.
pub data Reached (old : Memory) (start : List Edge) : ℕ → Type 0 where
  by_start : (x : Edge) → Contains start x → (e : Info) → old x.slot ≡ Some e → e.stamp ≡ x.stamp → Reached old start x.slot
  by_user : (p : ℕ) → Reached old start p → (f : Info) → old p ≡ Some f → (x : Edge) → Contains f.users x → (e : Info) → old x.slot ≡ Some e → e.stamp ≡ x.stamp
      → Reached old start x.slot

-- From the old entries the flush has come so far: what the edges of the start tell of is going or gone, and so is what used an
-- entry that is gone, apart from what is still to do; and what is going or gone was reached from there.
pub record Work (old : Memory) (start todo : List Edge) (first : Option ℕ) (m : Memory) : Type 0 where
  pub chain : List ℕ
  pub linked : IsChain m first chain
  pub all : (s : ℕ) (e : Info) → m s ≡ Some e → e.going ≡ true → Contains chain s
  pub same : (s : ℕ) (e : Info) → m s ≡ Some e → (f : Info) × (old s ≡ Some f) × IsSame f e
  pub reason : (s : ℕ) (e : Info) → m s ≡ Some e → e.going ≡ true → Reached old start s
  pub gone : (s : ℕ) (f : Info) → old s ≡ Some f → m s ≡ None → Reached old start s
  pub started : (x : Edge) → Contains start x → IsDoomed m x ⊎ Contains todo x
  pub left : (s : ℕ) (f : Info) → old s ≡ Some f → m s ≡ None → (x : Edge) → Contains f.users x → IsDoomed m x ⊎ Contains todo x
  pub due : (x : Edge) → Contains todo x → (f : Info) → old x.slot ≡ Some f → f.stamp ≡ x.stamp → Reached old start x.slot

-- no entry is going
abbrev pub IsIdle : Memory → Type 0
IsIdle m = (s : ℕ) (e : Info) → m s ≡ Some e → e.going ≡ false

-- The edges of the start are those of locations with the answer `true`, and each other location has the answer `false`.
pub record Begins (says : Location ℕ → Bool → Type 0) (lists : Location ℕ → List Edge) (start : List Edge) : Type 0 where
  pub from : (x : Edge) → Contains start x → (l : Location ℕ) × says l true × Contains (lists l) x
  pub all : (l : Location ℕ) → says l false ⊎ ((x : Edge) → Contains (lists l) x → Contains start x)
