-- What is kept, by slots.
use Rattle.std.specs.Prelude.{ℕ, List, Bool, true, false, Option, None, Some, option_map}
use Rattle.slab.specs.Slab.{get}
use Rattle.indexmap.specs.IndexMap.{index_map_len}
use Rattle.at_model.specs.Run.{Value, Instance}
use Rattle.at_body.specs.Values.{value_view}
use Rattle.at_index.specs.declared.edge.Edge.{Edge}
use Rattle.at_cache.specs.declared.entry.Entry.{Entry}
use Rattle.at_cache.specs.declared.mark.Mark.{Mark}
use Rattle.at_cache.specs.declared.mark.Mark.TheVariants as mark
use Rattle.at_cache.specs.declared.table.Table.{Table}
use Rattle.at_index.specs.Edges.{edges_in}
use Rattle.at_cache.specs.Placed.{at}

-- whether an entry goes
abbrev pub is_going : Mark → Bool
is_going mark.Stays = false
is_going mark.Last = true
is_going (mark.Before s) = true

-- the slot of the one that goes next
abbrev pub next_of : Mark → Option ℕ
next_of mark.Stays = None
next_of mark.Last = None
next_of (mark.Before s) = Some s

-- an entry: its instance, its value, if that is kept, the slots of those that it used, the number of its `put`, the number that it
-- came to be kept with, the edges to those that used it, whether it goes, and which one goes next
pub record Info : Type 0 where
  pub instance : Instance ℕ
  pub value : Option (Value ℕ)
  pub links : List ℕ
  pub stamp : ℕ
  pub since : ℕ
  pub users : List Edge
  pub going : Bool
  pub next : Option ℕ

abbrev pub info : Instance ℕ × Entry → Info
info e = record {
  instance = e.0;
  value = option_map value_view e.1.value;
  links = e.1.links.items;
  stamp = e.1.stamp;
  since = e.1.stamp;
  users = edges_in e.1.users;
  going = is_going e.1.mark;
  next = next_of e.1.mark;
}

-- the entry in each slot
abbrev pub Memory : Type 0
Memory = ℕ → Option Info

abbrev pub memory_of : Table → Memory
memory_of t k = option_map info (at t.entries.entries (get t.places) k)

abbrev pub table_len : Table → ℕ
table_len t = index_map_len t.entries
