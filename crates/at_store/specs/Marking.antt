-- Marks that nodes get, and that are taken back.
use Rattle.std.specs.Prelude.{◌≡◌, ℕ, suc, Bool, false, cond, is_some, Option, Some, None}
use Rattle.slab.specs.Slab.{Slab}
use Rattle.at_model.specs.Trees.{Tree, class_of}
use Rattle.at_store.specs.Numbers.{IsApart, path_in}
use Rattle.at_store.specs.Memory.{IsShallow, IsSpreadTo, Place, Stored}
use Rattle.at_store.specs.View.{leaves_in, memory_of}
use Rattle.at_store.specs.declared.entry.Entry.{Entry}

-- the node and all below it got this mark, wherever a tree of fewer levels stands there
abbrev pub AreMarkedBelow : (node : ℕ) → Bool → (levels : ℕ) → (before later : Slab Entry) → Type 0
AreMarkedBelow node b levels before later = (place : Place) (x : Tree) → class_of x ≡ node → IsApart x → Stored (memory_of before) place x
    → IsShallow levels x →
    (k : ℕ) → leaves_in later k ≡ cond (is_some (path_in k x)) b (leaves_in before k)

-- of a tree at the node that is marked up to a component that component is marked too
abbrev pub AreMarkedUpTo : (node part : ℕ) → Bool → (levels : ℕ) → (before later : Slab Entry) → Type 0
AreMarkedUpTo node part b levels before later = (first : ℕ → Bool) (place : Place) (x : Tree) → class_of x ≡ node → IsApart x
    → Stored (memory_of before) place x → IsShallow (suc levels) x →
    IsSpreadTo b first (leaves_in before) x (part, 0) → IsSpreadTo b first (leaves_in later) x (suc part, 0)

-- the marks of the node that was to leave are taken back
abbrev pub IsUnmarking : Option ℕ → (before later : Slab Entry) → Type 0
IsUnmarking None before later = (k : ℕ) → leaves_in later k ≡ leaves_in before k
IsUnmarking (Some node) before later = AreMarkedBelow node false 512 before later
