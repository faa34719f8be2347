-- An entry of the slab that is written and shows the same.
use Rattle.std.proofs.Common.{◌≡◌, Bool, ℕ, zero, suc, List, [], ◌∷◌, get_or, slice_set, Some, refl, sym, ap, ◌∙◌, inl, inr, is_some}
use Rattle.std.specs.Prelude.{map}
use Rattle.std.proofs.lemmas.Bool.{cases_eq}
use Rattle.slab.specs.Slab.{Slab, get, with_value}
use Rattle.slab.proofs.SlabLemmas.{Updates-with_value}
use Rattle.at_store.specs.Held.{held}
use Rattle.at_store.specs.declared.components.Components.{Components}
use Rattle.at_store.specs.declared.entry.Entry.{Entry}
use Rattle.at_store.specs.declared.entry.Slot.{Slot}
use Rattle.at_store.specs.Memory.{Info}
use Rattle.at_store.specs.Planting.{IsAsBefore}
use Rattle.at_store.specs.View.{info, info_of, kept_view, leaves_in, marked, stored_of, up_view}

pub written_same : (s : Slab Entry) (node : ℕ) (a : Entry) (cells : Components) → Some a ≡ get s node → map kept_view (held cells) ≡ map kept_view (held a.cells) →
    IsAsBefore (stored_of s) (stored_of (with_value s node (record { class = a.class; up = a.up; number = a.number; leaves = a.leaves; cells = cells })))
written_same s node a cells there same k =
    let new : Entry = record { class = a.class; up = a.up; number = a.number; leaves = a.leaves; cells = cells } in
    let shown : info new ≡ info a = ap (λ cs. let i : Info = record { class = a.class; up = up_view a.up; index = a.number; cells = cs } in i) same in
    let u = Updates-with_value s node new (ap is_some (sym there)) in
    elim (cases_eq k node) [
      | inl p ↦ ap (stored_of (with_value s node new)) p ∙ ap info_of u.changed ∙ ap Some shown ∙ ap info_of there ∙ ap (stored_of s) (sym p)
      | inr q ↦ ap info_of (u.others k q)
    ]

-- and is marked as before
pub marks_same : (s : Slab Entry) (node : ℕ) (a : Entry) (cells : Components) → Some a ≡ get s node → (k : ℕ) →
    leaves_in (with_value s node (record { class = a.class; up = a.up; number = a.number; leaves = a.leaves; cells = cells })) k ≡ leaves_in s k
marks_same s node a cells there k =
    let new : Entry = record { class = a.class; up = a.up; number = a.number; leaves = a.leaves; cells = cells } in
    let u = Updates-with_value s node new (ap is_some (sym there)) in
    elim (cases_eq k node) [
      | inl p ↦ ap (leaves_in (with_value s node new)) p ∙ ap marked u.changed ∙ ap marked there ∙ ap (leaves_in s) (sym p)
      | inr q ↦ ap marked (u.others k q)
    ]

-- an entry that is marked shows what it did
pub mark_written : (s : Slab Entry) (node : ℕ) (a : Entry) (leaves : Bool) → Some a ≡ get s node →
    IsAsBefore (stored_of s) (stored_of (with_value s node (record { class = a.class; up = a.up; number = a.number; leaves = leaves; cells = a.cells })))
mark_written s node a leaves there k =
    let new : Entry = record { class = a.class; up = a.up; number = a.number; leaves = leaves; cells = a.cells } in
    let u = Updates-with_value s node new (ap is_some (sym there)) in
    elim (cases_eq k node) [
      | inl p ↦ ap (stored_of (with_value s node new)) p ∙ ap info_of u.changed ∙ ap info_of there ∙ ap (stored_of s) (sym p)
      | inr q ↦ ap info_of (u.others k q)
    ]

-- a component that is written and shows the same
pub slot_same : (xs : List Slot) (i : ℕ) (a b : Slot) → get_or xs i a ≡ a → kept_view b ≡ kept_view a → map kept_view (slice_set xs i b) ≡ map kept_view xs
slot_same [] zero a b e h = refl
slot_same [] (suc i) a b e h = refl
slot_same (x ∷ xs) zero a b e h = ap (λ y. y ∷ map kept_view xs) (h ∙ ap kept_view (sym e))
slot_same (x ∷ xs) (suc i) a b e h = ap (λ ys. kept_view x ∷ ys) (slot_same xs i a b e h)
