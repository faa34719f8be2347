-- The classes that are directly below others.
use Rattle.std.specs.Prelude.{◌≡◌, ℕ, Bool, nat_eq, List, [], None, Some, slice_get, Vec}
use Rattle.std.specs.List.{list_any}
use Rattle.std.specs.Option.{option_eq}
use Rattle.at_model.specs.Classes.{Classes, parent_of}
use Rattle.at_complete.specs.declared.hierarchy.Hierarchy.{Hierarchy}

-- the one class is directly below the other
abbrev pub is_child : Classes → (c d : ℕ) → Bool
is_child classes c d = option_eq nat_eq (parent_of classes d) (Some c)

-- the list at that place, nothing behind the last
abbrev pub listed_at : {Z : Type 0} → List (Vec ℕ Z) → ℕ → List ℕ
listed_at lists c = elim (slice_get lists c) [ None ↦ [] | Some v ↦ v.items ]

-- for each class, the classes directly below it
abbrev pub IsHierarchy : Classes → Hierarchy → Type 0
IsHierarchy classes h = (c d : ℕ) → list_any (nat_eq d) (listed_at h.below.items c) ≡ is_child classes c d
