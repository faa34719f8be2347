-- Where a prepared edit touches something, named by nodes.
use Rattle.std.specs.Prelude.{◌≡◌, ℕ, List, Bool, true, false, ◌||◌, Option, Some, None, nat_eq, Contains}
use Rattle.std.specs.List.{list_any}
use Rattle.at_model.specs.Drawers.{Key}
use Rattle.at_model.specs.Run.{Location, Idx, Drawer}
use Rattle.at_model.specs.Touches.{node_of}
use Rattle.at_store.specs.Marked.{told}
use Rattle.at_store.specs.Memory.{Info, kids_in, up_in}
use Rattle.at_store.specs.Shifting.{is_drawer_in, is_drawer_of}
use Rattle.at_store.specs.Touching.{at_parent, is_index_of, is_slot_of}
use Rattle.at_store.specs.View.{leaves_in}
use Rattle.at_store.specs.Shown.{Shown}
use Rattle.at_store.specs.declared.edit.Ready.{Ready}
use Rattle.at_store.specs.declared.places.Changing.{Changing}
use Rattle.at_store.specs.declared.places.Places.{Places}

abbrev pub is_node : Option ℕ → ℕ → Bool
is_node None n = false
is_node (Some m) n = nat_eq m n

-- the index of one of these nodes
abbrev pub is_index_among : List ℕ → Location ℕ → Bool
is_index_among nodes (Idx n) = list_any (nat_eq n) nodes
is_index_among nodes l = false

-- a location of the node, or the index of one of its children
abbrev pub names_around : Option Changing → Location ℕ → Bool
names_around None l = false
names_around (Some c) l = nat_eq c.node (node_of l) || is_index_among c.children.now l

-- a drawer of the node
abbrev pub is_drawer_at : Option ℕ → Location ℕ → Bool
is_drawer_at keyed (Drawer n part key mark) = is_node keyed n
is_drawer_at keyed l = false

-- the places name the location
abbrev pub named : Places → Location ℕ → Bool
named p l =
    list_any (nat_eq (node_of l)) p.leaving.now || is_node p.moved (node_of l) || names_around p.target l || names_around p.source l
    || is_drawer_at p.keyed l

-- a node that stands in a component stands among the children there
abbrev pub IsChild : (ℕ → Option Info) → ℕ → Type 0
IsChild memory k = (a part : ℕ) → up_in (memory k) ≡ Some (a, part) → list_any (nat_eq k) (kids_in (memory a) part) ≡ true

-- What isn't named touches neither what stands in the component nor the indexes there, nor a drawer of it: of a component, and of the
-- one in which a node stands, where there is one.
abbrev pub IsSpared : (ℕ → Option Info) → (node part : ℕ) → Location ℕ → Type 0
IsSpared memory node part l =
    (is_slot_of nat_eq node part l ≡ false) × (is_index_of nat_eq (told memory) node part l ≡ false)
    × ((test : Key → ℕ → Bool) → is_drawer_of nat_eq node part test l ≡ false)

abbrev pub NamesComponent : (ℕ → Option Info) → (node part : ℕ) → Changing → Type 0
NamesComponent memory node part c = (l : Location ℕ) → IsChild memory (node_of l) → names_around (Some c) l ≡ false → IsSpared memory node part l

abbrev pub NamesAround : (ℕ → Option Info) → (node : ℕ) → Option Changing → Type 0
NamesAround memory node o = (l : Location ℕ) → IsChild memory (node_of l) → names_around o l ≡ false
    → (at_parent (λ p. is_slot_of nat_eq p.0 p.1 l) (up_in (memory node)) ≡ false)
    × (at_parent (λ p. is_index_of nat_eq (told memory) p.0 p.1 l) (up_in (memory node)) ≡ false)
    × ((test : Key → ℕ → Bool) → is_drawer_in nat_eq test l (up_in (memory node)) ≡ false)

-- the same where no index changes
abbrev pub NamesParent : (ℕ → Option Info) → (node : ℕ) → Option Changing → Type 0
NamesParent memory node o = (l : Location ℕ) → names_around o l ≡ false
    → (at_parent (λ p. is_slot_of nat_eq p.0 p.1 l) (up_in (memory node)) ≡ false)
    × ((test : Key → ℕ → Bool) → is_drawer_in nat_eq test l (up_in (memory node)) ≡ false)

-- each node that leaves is listed
abbrev pub IsListed : Ready → Shown → Type 0
IsListed r s = (k : ℕ) → leaves_in s.slab k ≡ true → Contains r.leaving.items k
