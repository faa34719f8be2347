-- Room that is taken for one more child, before it comes.
use Rattle.std.specs.Prelude.{◌≡◌, ⊤, ℕ, ◌<◌, ◌≤◌, ◌^◌, length, List, [], Option, Some, None}
use Rattle.std.specs.List.{insert, slice_get}
use Rattle.slab.specs.Slab.{Slab, get}
use Rattle.smallvec.specs.SmallVec.{SmallVec, HasRoomFor}
use Rattle.at_model.specs.Edits.{Edit}
use Rattle.at_model.specs.Edits as edit
use Rattle.at_model.specs.Trees.{Tree}
use Rattle.at_store.specs.Held.{held}
use Rattle.at_store.specs.Memory.{AreAlike, Form, Info, Kids, cell_in, come_to}
use Rattle.at_store.specs.Numbers.{number_at}
use Rattle.at_store.specs.View.{stored_of}
use Rattle.at_store.specs.declared.entry.Entry.{Entry}
use Rattle.at_store.specs.declared.entry.Slot.{Slot}
use Rattle.at_store.specs.declared.entry.Slot.TheVariants as slot

-- one more child takes no memory, and its index four bytes
abbrev pub TakesOneMore : SmallVec ℕ → Type 0
TakesOneMore kids = HasRoomFor kids 1 × length kids.items < 2 ^ 32

-- so it is in the component
abbrev pub HasSpace : Option Slot → Type 0
HasSpace (Some (slot.Kids form first kids)) = TakesOneMore kids
HasSpace o = ⊤

abbrev pub slots_of : Option Entry → List Slot
slots_of None = []
slots_of (Some e) = held e.cells

abbrev pub slots_in : Slab Entry → ℕ → List Slot
slots_in slab k = slots_of (get slab k)

abbrev pub HasRoom : Slab Entry → (node part : ℕ) → Type 0
HasRoom slab node part = HasSpace (slice_get (slots_in slab node) part)

-- where there was room there still is
abbrev pub KeepsRoom : (before later : Slab Entry) → Type 0
KeepsRoom before later = (node part : ℕ) → HasRoom before node part → HasRoom later node part

-- there is room where the edit of a numbered tree puts a child
abbrev pub IsRoomFor : Slab Entry → Tree → Edit → Type 0
IsRoomFor slab s (edit.Put node part new) = HasRoom slab (number_at s node) part
IsRoomFor slab s (edit.Insert node part index new) = HasRoom slab (number_at s node) part
IsRoomFor slab s (edit.Move node to part index) = HasRoom slab (number_at s to) part
IsRoomFor slab s e = ⊤

-- where there was room the node came into the list, to that index
abbrev pub ComesTo : (node part index new : ℕ) → (before later : Slab Entry) → Type 0
ComesTo node part index new before later = (memory : ℕ → Option Info) (form : Form) (kids : List ℕ) → AreAlike memory (stored_of before)
    → cell_in (memory node) part ≡ Some (Kids form kids) → index ≤ length kids → HasRoom before node part
    → AreAlike (come_to node part index new (Kids form (insert kids index new)) memory) (stored_of later)
