-- What is kept with links to earlier entries, and how it is found from the locations.
use Rattle.std.specs.Prelude.{◌≡◌, ◌<◌, ℕ, zero, suc, List, Bool, true, false, ◌&&◌, ◌||◌, None, Some, nat_eq, nat_lt}
use Rattle.std.specs.List.{list_any}
use Rattle.at_model.specs.Run.{Location}
use Rattle.at_index.specs.declared.edge.Edge.{Edge}
use Rattle.at_index.specs.Edges.{is_listed}
use Rattle.at_cache.specs.Info.{Info, Memory}

-- the edge to the entry in the slot
abbrev pub edge_to : ℕ → Info → Edge
edge_to s e = record { slot = s; stamp = e.stamp }

-- whether the entry in the slot stands for the location: the location's edges have one to it, or an entry that it used stands
-- for it. Each link leads to an entry that came to be kept earlier, so that the number of those is far enough to look
abbrev pub covers : (lists : Location ℕ → List Edge) → Memory → (far : ℕ) → (slot : ℕ) → Location ℕ → Bool
covers lists m zero s l = false
covers lists m (suc far) s l = elim (m s) [ None ↦ false | Some e ↦ is_listed (edge_to s e) (lists l) || list_any (λ p. covers lists m far p l) e.links ]

-- whether an earlier entry is in the slot p, and has an edge to the entry
abbrev pub is_used : Memory → ℕ → Info → ℕ → Bool
is_used m s e p = elim (m p) [ None ↦ false | Some f ↦ nat_lt f.since e.since && is_listed (edge_to s e) f.users ]

-- Where no flush is under way: each entry is found from all entries that it used, by an edge of each; an edge that has the
-- number of the entry in its slot means that the entry used that one; and numbers are those of earlier calls of `put`.
pub record IsIndexed (lists : Location ℕ → List Edge) (puts : ℕ) (m : Memory) : Type 0 where
  pub idle : (s : ℕ) (e : Info) → m s ≡ Some e → e.going ≡ false
  pub known : (s : ℕ) (e : Info) → m s ≡ Some e → e.stamp < puts
  pub ordered : (s : ℕ) (e : Info) → m s ≡ Some e → e.since < puts
  pub used : (s : ℕ) (e : Info) → m s ≡ Some e → (p : ℕ) → list_any (nat_eq p) e.links ≡ true → is_used m s e p ≡ true
  pub uses : (p : ℕ) (f : Info) → m p ≡ Some f → (x : Edge) → is_listed x f.users ≡ true → (e : Info) → m x.slot ≡ Some e → e.stamp ≡ x.stamp
      → list_any (nat_eq p) e.links ≡ true
  pub past_readers : (l : Location ℕ) (x : Edge) → is_listed x (lists l) ≡ true → x.stamp < puts
  pub past_users : (p : ℕ) (f : Info) → m p ≡ Some f → (x : Edge) → is_listed x f.users ≡ true → x.stamp < puts
