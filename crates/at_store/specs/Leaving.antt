-- The nodes that an edit takes away, in a list.
use Rattle.std.specs.Prelude.{◌≡◌, ℕ, suc, Bool, true, nat_eq, cond, is_some, List, [], Option, Some, None}
use Rattle.std.specs.List.{list_any}
use Rattle.at_model.specs.Trees.{Tree, class_of}
use Rattle.at_store.specs.Numbers.{IsApart, path_in}
use Rattle.at_store.specs.Memory.{Info, IsShallow, IsSpreadTo, Place, Stored}
use Rattle.at_store.specs.declared.edit.Edit.{Edit}
use Rattle.at_store.specs.declared.edit.Edit.TheVariants as edit

-- the node that goes with all below it
abbrev pub taken_by : Edit → Option ℕ
taken_by (edit.Set node tree) = Some node
taken_by (edit.Drop node) = Some node
taken_by e = None

abbrev pub is_listed : List ℕ → ℕ → Bool
is_listed nodes k = list_any (nat_eq k) nodes

-- the node and all below it came into the list, wherever a tree of fewer levels stands there
abbrev pub AreListedBelow : (node levels : ℕ) → (ℕ → Option Info) → (before later : List ℕ) → Type 0
AreListedBelow node levels memory before later = (place : Place) (x : Tree) → class_of x ≡ node → IsApart x → Stored memory place x → IsShallow levels x →
    (k : ℕ) → is_listed later k ≡ cond (is_some (path_in k x)) true (is_listed before k)

-- of a tree at the node that is listed up to a component that component is listed too
abbrev pub AreListedUpTo : (node part levels : ℕ) → (ℕ → Option Info) → (before later : List ℕ) → Type 0
AreListedUpTo node part levels memory before later = (first : ℕ → Bool) (place : Place) (x : Tree)
    → class_of x ≡ node → IsApart x → Stored memory place x → IsShallow (suc levels) x →
    IsSpreadTo true first (is_listed before) x (part, 0) → IsSpreadTo true first (is_listed later) x (suc part, 0)

-- they are the node and all below it, where one is named
abbrev pub AreAllBelow : Option ℕ → (ℕ → Option Info) → List ℕ → Type 0
AreAllBelow None memory nodes = nodes ≡ []
AreAllBelow (Some node) memory nodes = AreListedBelow node 512 memory [] nodes
