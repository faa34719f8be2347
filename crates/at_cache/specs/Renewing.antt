-- What a put takes away beside.
use Rattle.std.specs.Prelude.{◌≡◌, ◌⊎◌, ◌+◌, ℕ, List, length, true, false, Option, None, Some, Contains, OnErr, OnOk, Result}
use Rattle.std.specs.Map.{lookup}
use Rattle.at_model.specs.Run.{Instance, Location, Value}
use Rattle.at_body.specs.Same.{same_instance}
use Rattle.at_cache.specs.declared.cut.Cut.{Cut}
use Rattle.at_index.specs.declared.edge.Edge.{Edge}
use Rattle.at_cache.specs.declared.keeper.Order.{Order}
use Rattle.at_cache.specs.declared.standing.Standing.{Standing}
use Rattle.at_cache.specs.declared.table.Table.{Table}
use Rattle.at_cache.specs.Info.{Info, Memory, memory_of}
use Rattle.at_cache.specs.Putting.{users_at}
use Rattle.at_cache.specs.Kept.{KeepsAll, Puts}
use Rattle.at_cache.specs.Recorded.{IsIndexed}
use Rattle.at_cache.specs.Shedding.{kept_cut, remembered_cut}
use Rattle.at_cache.specs.Standings.{AreValued, IsTied, held, kept_held, remembered, standing_of, untraced}
use Rattle.at_cache.specs.Traced.{KeepsTrace, PutsTrace, SparesOthers, StayTraced}

-- an edge to those that used what is in the slot tells of the entry in k
pub record IsUser (m : Memory) (slot k : ℕ) (e : Info) : Type 0 where
  pub edge : Edge
  pub among : Contains (users_at m slot) edge
  pub there : edge.slot ≡ k
  pub stamp : e.stamp ≡ edge.stamp

-- the value of what is in the slot is another one
abbrev pub IsAnother : Memory → (slot : ℕ) → Option (Value ℕ) → Type 0
IsAnother m slot value = (f : Info) → m slot ≡ Some f → f.value ≡ value → ⊥

-- All stays as it is but that no entry is traced that used the one in the slot, if that has another value.
pub record Compares (slot : ℕ) (value : Option (Value ℕ)) (standings : List Standing) (m : Memory) (later : List Standing) (n : Memory) : Type 0 where
  pub entries : (k : ℕ) → n k ≡ m k
  pub stand : (k : ℕ) → untraced (standing_of later k) ≡ untraced (standing_of standings k)
  pub fewer : (k : ℕ) (e : Info) → m k ≡ Some e → (standing_of later k).traced ≡ true → (standing_of standings k).traced ≡ true
  pub room : length later ≡ length standings
  pub changed : (e : Info) → m slot ≡ Some e → (e.value ≡ value)
      ⊎ ((x : Edge) → Contains e.users x → (f : Info) → m x.slot ≡ Some f → f.stamp ≡ x.stamp → (standing_of later x.slot).traced ≡ false)
  pub spared : (k : ℕ) (e : Info) → m k ≡ Some e → (k ≡ slot → ⊥) → (standing_of standings k).traced ≡ true
      → ((standing_of later k).traced ≡ true) ⊎ (IsUser m slot k e × IsAnother m slot value)

-- the slot is that of the instance's entry, or the next one
abbrev pub IsSlotFor : Table → Instance ℕ → (slot : ℕ) → Type 0
IsSlotFor t i slot = elim (lookup (same_instance i) t.entries.entries) as (λ _. Type 0) [ None ↦ slot ≡ t.places.vacant_key | Some e ↦ slot ≡ e.slot ]

-- What is kept is found, and so is what can be kept again; and the instance isn't kept, of which that is the slot.
pub record IsAwaited (lists : Location ℕ → List Edge) (t : Table) (standings : List Standing) (puts : ℕ)
    (i : Instance ℕ) (slot : ℕ) : Type 0 where
  pub indexed : IsIndexed lists puts (held standings (memory_of t))
  pub tied : IsTied lists puts standings (memory_of t)
  pub valued : AreValued standings (memory_of t)
  pub absent : kept_held lists t standings puts i ≡ None
  pub place : IsSlotFor t i slot
  pub its : (e : Info) → memory_of t slot ≡ Some e → e.instance ≡ i

-- It still isn't. All that is kept stays so, and each trace was there, over the same last values.
pub record StaysAwaited (lists : Location ℕ → List Edge) (t : Table) (standings : List Standing) (puts : ℕ)
    (n : Table) (later : List Standing) (next : ℕ) (i : Instance ℕ) (slot : ℕ) : Type 0 where
  pub awaited : IsAwaited lists n later next i slot
  pub keeps : KeepsAll (kept_held lists t standings puts) (kept_held lists n later next)
  pub traced : StayTraced (remembered lists t standings) (remembered lists n later)
  pub others : (j : Instance ℕ) → (i ≡ j → ⊥) → KeepsTrace j (remembered lists t standings) (remembered lists n later)
  pub last : (j : Instance ℕ) → (remembered lists n later).last j ≡ (remembered lists t standings).last j

-- An entry with these comes into the slot, or in place of what is there; with the users of that. The others stay, and what used what
-- was there isn't traced, if that had another value.
pub record PutsIn (slot : ℕ) (instance : Instance ℕ) (value : Option (Value ℕ)) (links : List ℕ) (stamp : ℕ)
    (standings : List Standing) (m : Memory) (later : List Standing) (n : Memory) : Type 0 where
  pub entry : Info
  pub here : n slot ≡ Some entry
  pub put : (entry.value ≡ value) × (entry.links ≡ links) × (entry.stamp ≡ stamp) × (entry.users ≡ users_at m slot) × (entry.going ≡ false)
  pub fresh : m slot ≡ None → entry.instance ≡ instance
  pub anew : (e : Info) → m slot ≡ Some e → entry.instance ≡ e.instance
  pub others : (k : ℕ) → (k ≡ slot → ⊥) → n k ≡ m k
  pub stand : (k : ℕ) → untraced (standing_of later k) ≡ untraced (standing_of standings k)
  pub fewer : (k : ℕ) (e : Info) → m k ≡ Some e → (standing_of later k).traced ≡ true → (standing_of standings k).traced ≡ true
  pub room : length later ≡ length standings
  pub changed : (e : Info) → m slot ≡ Some e → (e.value ≡ value)
      ⊎ ((x : Edge) → Contains e.users x → (f : Info) → m x.slot ≡ Some f → f.stamp ≡ x.stamp → (standing_of later x.slot).traced ≡ false)
  pub spared : (k : ℕ) (e : Info) → m k ≡ Some e → (k ≡ slot → ⊥) → (standing_of standings k).traced ≡ true
      → ((standing_of later k).traced ≡ true) ⊎ (IsUser m slot k e × IsAnother m slot value)

-- The entry of i came to be kept, by that number, or all that is kept is what it was and no trace came. It is found, and so is what can be kept
-- again; of what is remembered no more is lost than by a put.
pub record EntersHeld {E : Type 0} (i : Instance ℕ) (v : Option (Value ℕ)) (looked : List (Location ℕ)) (taken : List (Instance ℕ)) (o : Order)
    (number : ℕ) (lists : Location ℕ → List Edge) (old : Cut) (later : Location ℕ → List Edge) (new : Cut) (r : Result (Unit {0}) E) : Type 0 where
  pub indexed : IsIndexed later (number + 1) (held new.standings.items (memory_of new.entries))
  pub tied : IsTied later (number + 1) new.standings.items (memory_of new.entries)
  pub valued : AreValued new.standings.items (memory_of new.entries)
  pub puts : OnOk r (Puts (kept_cut lists old number) i v looked taken (kept_cut later new (number + 1)))
  pub err : OnErr r (KeepsAll (kept_cut lists old number) (kept_cut later new (number + 1)))
  pub fails : OnErr r (StayTraced (remembered_cut lists old) (remembered_cut later new))
  pub traces : PutsTrace i v looked taken o (remembered_cut lists old) (remembered_cut later new)
  pub spares : SparesOthers i (kept_cut later new (number + 1)) (remembered_cut lists old) (remembered_cut later new)
