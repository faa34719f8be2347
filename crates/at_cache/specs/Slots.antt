-- What a write does to one entry of a map.
use Rattle.std.specs.Prelude.{◌≡◌, ℕ, List, Option, Some, slice_get}
use Rattle.indexmap.specs.Layout.{set_value_at}
use Rattle.smallvec.specs.SmallVec.{SmallVec}
use Rattle.at_model.specs.Run as run
use Rattle.at_model.specs.Run.{Instance}
use Rattle.at_body.specs.declared.value.Value.{Value}
use Rattle.at_index.specs.declared.edge.Edge.{Edge}
use Rattle.at_index.specs.declared.edge.Edges.{Edges}
use Rattle.at_cache.specs.declared.entry.Entry.{Entry}
use Rattle.at_cache.specs.declared.mark.Mark.{Mark}
use Rattle.at_cache.specs.Info.{Info}

abbrev pub with_mark : Mark → Entry → Entry
with_mark mark e = record e { mark = mark }

abbrev pub with_list : Edges → Entry → Entry
with_list users e = record e { users = users }

abbrev pub with_entry : Option Value → SmallVec ℕ → ℕ → Entry → Entry
with_entry value links stamp e = record e { value = value; links = links; stamp = stamp }

abbrev pub with_number : SmallVec ℕ → ℕ → Entry → Entry
with_number links stamp e = record e { links = links; stamp = stamp }

abbrev pub with_rest : SmallVec ℕ → Edges → Entry → Entry
with_rest links users e = record e { links = links; users = users }

-- an entry that is put anew
abbrev pub renewed : Option (run.Value ℕ) → (links : List ℕ) → (stamp : ℕ) → Info → Info
renewed value links stamp e = record e { value = value; links = links; stamp = stamp; since = stamp }

-- an entry with another number, so that no edge tells of it
abbrev pub outdated : (links : List ℕ) (stamp : ℕ) → Info → Info
outdated links stamp e = record e { links = links; stamp = stamp; since = stamp }

-- an entry with other links and users
abbrev pub relinked : (links : List ℕ) → (users : List Edge) → Info → Info
relinked links users e = record e { links = links; users = users }

-- the entry at the place is changed so
abbrev pub HasWritten : (Entry → Entry) → ℕ → (old new : List (Instance ℕ × Entry)) → Type 0
HasWritten f p old new = (e : Instance ℕ × Entry) → slice_get old p ≡ Some e → new ≡ set_value_at old p (f e.1)
