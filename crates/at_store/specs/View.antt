-- The slab as a memory of nodes.
use Rattle.std.specs.Prelude.{◌≡◌, ℕ, Bool, true, false, cond, nat_eq, map, Option, Some, None}
use Rattle.slab.specs.Slab.{Slab, get}
use Rattle.at_tree.specs.Token.{token_view}
use Rattle.at_store.specs.Held.{held}
use Rattle.at_store.specs.Memory.{Form, Plain, List_of, Optional, Kept, Kids, Token_of, Info, arranged, reindexed}
use Rattle.at_store.specs.declared.entry.Entry.{Entry}
use Rattle.at_store.specs.declared.entry.Slot.{Slot}
use Rattle.at_store.specs.declared.entry.Slot.TheVariants as slot
use Rattle.at_store.specs.declared.entry.Up.{Up}
use Rattle.at_store.specs.declared.entry.Up.TheVariants as up
use Rattle.at_store.specs.declared.entry.Form.{Form as Shape}
use Rattle.at_store.specs.declared.entry.Form.TheVariants as shape

abbrev pub form_view : Shape → Form
form_view shape.Plain = Plain
form_view shape.List = List_of
form_view shape.Optional = Optional

abbrev pub kept_view : Slot → Kept
kept_view (slot.Kids f first ns) = Kids (form_view f) ns.items
kept_view (slot.Token v) = Token_of (token_view v)

abbrev pub up_view : Up → Option (ℕ × ℕ)
up_view up.Alone = None
up_view (up.In part parent) = Some (parent, part)

abbrev pub info : Entry → Info
info e = record { class = e.class; up = up_view e.up; index = e.number; cells = map kept_view (held e.cells) }

abbrev pub info_of : Option Entry → Option Info
info_of None = None
info_of (Some e) = Some (info e)

-- what is kept of a node, with its number in the place of its index
abbrev pub stored_of : Slab Entry → ℕ → Option Info
stored_of slab k = info_of (get slab k)

-- the same, with other indexes; and with the place of each node among the children as its index
abbrev pub viewed : (ℕ → Option (ℕ × ℕ) → ℕ → ℕ) → Slab Entry → ℕ → Option Info
viewed f slab k = reindexed f k (stored_of slab k)

abbrev pub memory_of : Slab Entry → ℕ → Option Info
memory_of slab = arranged (stored_of slab)

-- the node is marked: the edit that is prepared takes it away
abbrev pub marked : Option Entry → Bool
marked None = false
marked (Some e) = e.leaves

abbrev pub leaves_in : Slab Entry → ℕ → Bool
leaves_in slab k = marked (get slab k)

-- no node is marked; and none is that wasn't
abbrev pub IsUnmarked : Slab Entry → Type 0
IsUnmarked slab = (k : ℕ) → leaves_in slab k ≡ false

abbrev pub MarksNoMore : (before later : Slab Entry) → Type 0
MarksNoMore before later = (k : ℕ) → leaves_in later k ≡ true → leaves_in before k ≡ true

-- what the mark of the node k is after that of one node was written
abbrev pub with_mark : Bool → Option Entry → Bool
with_mark b None = false
with_mark b (Some e) = b

abbrev pub remarked : ℕ → Bool → ℕ → Option Entry → Bool
remarked node b k o = cond (nat_eq k node) (with_mark b o) (marked o)
