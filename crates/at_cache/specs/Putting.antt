-- One more entry.
use Rattle.std.specs.Prelude.{◌≡◌, ℕ, List, [], Bool, false, Option, None, Some, IsSome, option_map, nat_eq, if◌then◌else◌, Contains}
use Rattle.at_index.specs.declared.edge.Edge.{Edge}
use Rattle.at_model.specs.Run.{Value, Instance}
use Rattle.at_index.specs.Linking.{Reads}
use Rattle.at_cache.specs.Info.{Info, Memory}

-- the edge tells of an entry that is there
abbrev pub is_current : Memory → Edge → Bool
is_current m x = elim (m x.slot) [ None ↦ false | Some e ↦ nat_eq e.stamp x.stamp ]

abbrev pub with_users : List Edge → Info → Info
with_users users e = record e { users = users }

-- the edges to those that used the entry in the slot
abbrev pub users_at : Memory → ℕ → List Edge
users_at m s = elim (m s) [ None ↦ [] | Some e ↦ e.users ]

-- the memory with other users of one entry
abbrev pub reused : ℕ → List Edge → Memory → Memory
reused s users m k = if nat_eq k s then option_map (with_users users) (m k) else m k

-- The same entries are there, but for their users, which are so for these slots: all edges stay that tell of what is told of.
pub record Uses (told : Memory) (x : Edge) (slots : List ℕ) (old new : Memory) : Type 0 where
  pub there : (k : ℕ) (e : Info) → old k ≡ Some e → (f : Info) × (new k ≡ Some f) × (f ≡ with_users f.users e)
  pub free : (k : ℕ) → old k ≡ None → new k ≡ None
  pub users : Reads (is_current told) x slots (users_at old) (users_at new)

-- the entries of these slots are there
abbrev pub AreTaken : Memory → List ℕ → Type 0
AreTaken m uses = (u : ℕ) → Contains uses u → IsSome (m u)

-- what an entry is when it comes
abbrev pub fresh_entry : (instance : Instance ℕ) (value : Option (Value ℕ)) (links : List ℕ) (stamp : ℕ) → Info
fresh_entry instance value links stamp = record {
  instance = instance;
  value = value;
  links = links;
  stamp = stamp;
  since = stamp;
  users = [];
  going = false;
  next = None;
}

-- the entry comes into the slot, which was free
pub record Enters (old : Memory) (slot : ℕ) (e : Info) (new : Memory) : Type 0 where
  pub free : old slot ≡ None
  pub here : new slot ≡ Some e
  pub others : (k : ℕ) → (k ≡ slot → ⊥) → new k ≡ old k
