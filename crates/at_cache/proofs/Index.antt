-- The index by membership, and what is kept by slots.
use Rattle.at_cache.proofs.Common.{◌≡◌, ◌<◌, ◌⊎◌, ℕ, List, Bool, true, false, Option, Some, option_map, Contains, Instance, Location, Edge, Info, Memory, Kept, covers, edge_to}

-- each entry is found from all that it used, and what is found so used that; links lead to earlier entries
pub record Index (lists : Location ℕ → List Edge) (puts : ℕ) (m : Memory) : Type 0 where
  pub idle : (s : ℕ) (e : Info) → m s ≡ Some e → e.going ≡ false
  pub known : (s : ℕ) (e : Info) → m s ≡ Some e → e.stamp < puts
  pub ordered : (s : ℕ) (e : Info) → m s ≡ Some e → e.since < puts
  pub used : (s : ℕ) (e : Info) → m s ≡ Some e → (p : ℕ) → Contains e.links p → (f : Info) × (m p ≡ Some f) × (f.since < e.since) × Contains f.users (edge_to s e)
  pub uses : (p : ℕ) (f : Info) → m p ≡ Some f → (x : Edge) → Contains f.users x → (e : Info) → m x.slot ≡ Some e → e.stamp ≡ x.stamp → Contains e.links p
  pub past_readers : (l : Location ℕ) (x : Edge) → Contains (lists l) x → x.stamp < puts
  pub past_users : (p : ℕ) (f : Info) → m p ≡ Some f → (x : Edge) → Contains f.users x → x.stamp < puts

-- what is kept, and of which instance
pub record Standing : Type 0 where
  pub instance : Instance ℕ
  pub kept : Kept

abbrev pub standing : (Location ℕ → List Edge) → Memory → (puts s : ℕ) → Info → Standing
standing lists m puts s e = record { instance = e.instance; kept = record { value = e.value; covers = covers lists m puts s } }

-- what is kept in a slot
abbrev pub kept_at : (Location ℕ → List Edge) → Memory → (puts : ℕ) → ℕ → Option Standing
kept_at lists m puts s = option_map (standing lists m puts s) (m s)

-- what is kept now was, and each location that it stands for has the answer `false`
abbrev pub LeavesSlots : (says : Location ℕ → Bool → Type 0) → (old new : ℕ → Option Standing) → Type 0
LeavesSlots says old new = (s : ℕ) (x : Standing) → new s ≡ Some x → (old s ≡ Some x) × ((l : Location ℕ) → x.kept.covers l ≡ true → says l false)

-- what was kept is, or stands for a location with the answer `true`
abbrev pub LosesSlots : (says : Location ℕ → Bool → Type 0) → (old new : ℕ → Option Standing) → Type 0
LosesSlots says old new = (s : ℕ) (x : Standing) → old s ≡ Some x → (new s ≡ Some x) ⊎ ((l : Location ℕ) × (x.kept.covers l ≡ true) × says l true)
