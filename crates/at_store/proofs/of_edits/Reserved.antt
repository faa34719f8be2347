-- A list with another element, as a cell that is written anew; and where there is room.
use Rattle.std.proofs.Common.{◌≡◌, ℕ, zero, suc, Bool, List, [], ◌∷◌, cond, get_or, nat_eq, slice_set, true, false, Option, Some, None, inl, inr, refl, sym, ap, ◌∙◌, subst, is_some, Result, Ok, Err, IsOk, OnOk}
use Rattle.std.specs.Prelude.{map}
use Rattle.std.specs.List.{slice_get}
use Rattle.std.proofs.lemmas.Bool.{cases_eq, eq-eqb, ne_eqb}
use Rattle.slab.specs.Slab.{Slab, Updates, get, with_value}
use Rattle.slab.proofs.SlabLemmas.{Updates-with_value}
use Rattle.at_model.specs.Edits.{changed_at}
use Rattle.at_store.specs.Memory.{Form, Info, Kept, Kids, cell_in, kids_in, numbers_in, relinked, rewritten, with_kept, with_kids, with_numbers}
use Rattle.at_store.specs.Reserving.{HasRoom, HasSpace, KeepsRoom, slots_of}
use Rattle.at_store.specs.View.{info_of, kept_view, stored_of, up_view}
use Rattle.at_store.specs.Held.{held}
use Rattle.at_store.specs.declared.components.Components.{Components}
use Rattle.at_store.specs.declared.entry.Entry.{Entry}
use Rattle.at_store.specs.declared.entry.Slot.{Slot}
use Rattle.at_store.proofs.of_edits.Taken.{one_changed}

-- a cell that holds these numbers, with others of them
pub list_written : (memory : ℕ → Option Info) (node part : ℕ) (f : List ℕ → List ℕ) (form : Form) (kids : List ℕ)
    → cell_in (memory node) part ≡ Some (Kids form kids) → (k : ℕ)
    → relinked node part f k (memory k) ≡ rewritten node part (Kids form (f kids)) k (memory k)
list_written memory node part f form kids here k = elim (cases_eq k node) [
  | inl e ↦ subst (λ (j : ℕ). relinked node part f j (memory j) ≡ rewritten node part (Kids form (f kids)) j
      (memory j)) (sym e) (ap (λ o. cond (nat_eq node node) o (memory node)) (at_node (memory node) here))
  | inr e ↦ ap (λ b. cond b (with_kids part f (memory k)) (memory k)) (ne_eqb k node e) ∙ sym (ap (λ b. cond b (with_kept part (Kids form (f kids)) (memory k)) (memory k)) (ne_eqb k node e))
]
  where
    at_node : (o : Option Info) → cell_in o part ≡ Some (Kids form kids) → with_kids part f o ≡ with_kept part (Kids form (f kids)) o
    at_node None e = refl
    at_node (Some i) e = λ j. Some (record { class = i.class; up = i.up; index = i.index; cells = one_changed (with_numbers f) i.cells part (Kids form kids) (Kids form (f kids)) e refl j })

-- a slot that is written: where there was room there still is, and it has what it is given
pub space_kept : (cells : List Slot) (i : ℕ) (a b : Slot) → get_or cells i a ≡ a → (HasSpace (Some a)
    → HasSpace (Some b)) → (p : ℕ) → HasSpace (slice_get cells p) → HasSpace (slice_get (slice_set cells i b) p)
space_kept [] zero a b e f p h = h
space_kept [] (suc i) a b e f p h = h
space_kept (x ∷ xs) zero a b e f zero h = f (subst (λ (s : Slot). HasSpace (Some s)) e h)
space_kept (x ∷ xs) zero a b e f (suc p) h = h
space_kept (x ∷ xs) (suc i) a b e f zero h = h
space_kept (x ∷ xs) (suc i) a b e f (suc p) h = space_kept xs i a b e f p h

pub space_taken : (cells : List Slot) (i : ℕ) (b : Slot) → HasSpace (Some b) → HasSpace (slice_get (slice_set cells i b) i)
space_taken [] zero b h = tt
space_taken [] (suc i) b h = tt
space_taken (x ∷ xs) zero b h = h
space_taken (x ∷ xs) (suc i) b h = space_taken xs i b h

pub done : {T E P : Type 0} (r : Result T E) → IsOk r → OnOk r P → P
done (Ok x) ok h = h
done (Err e) ok h = absurd cc

-- an entry whose components are written
module _ (s : Slab Entry) (node : ℕ) (a : Entry) (cells : Components) (there : Some a ≡ get s node) where
  abbrev pub new_entry : Entry
  new_entry = record { class = a.class; up = a.up; number = a.number; leaves = a.leaves; cells = cells }

  abbrev later : Slab Entry
  later = with_value s node new_entry

  updates : Updates s later node (Some new_entry)
  updates = Updates-with_value s node new_entry (ap is_some (sym there))

  pub room_was : (p : ℕ) → HasRoom s node p → HasSpace (slice_get (held a.cells) p)
  room_was p h = subst (λ (o : Option Entry). HasSpace (slice_get (slots_of o) p)) (sym there) h

  pub room_taken : (p : ℕ) → HasSpace (slice_get (held cells) p) → HasRoom later node p
  room_taken p h = subst (λ (o : Option Entry). HasSpace (slice_get (slots_of o) p)) (sym updates.changed) h

  pub room_kept : ((p : ℕ) → HasSpace (slice_get (held a.cells) p) → HasSpace (slice_get (held cells) p)) → KeepsRoom s later
  room_kept f k p h = elim (cases_eq k node) [
    | inl e ↦ subst (λ (j : ℕ). HasRoom later j p) (sym e) (room_taken p (f p (room_was p (subst (λ (j : ℕ). HasRoom s j p) e h))))
    | inr e ↦ subst (λ (o : Option Entry). HasSpace (slice_get (slots_of o) p)) (sym (updates.others k e)) h
  ]

  pub kids_were : (p : ℕ) → numbers_in (slice_get (map kept_view (held a.cells)) p) ≡ kids_in (stored_of s node) p
  kids_were p = ap (λ o. kids_in (info_of o) p) there

  pub relinked_later : (g : List ℕ → List ℕ) (part : ℕ) → map kept_view (held cells) ≡ changed_at (with_numbers g)
      (map kept_view (held a.cells)) part → (k : ℕ) → stored_of later k ≡ relinked node part g k (stored_of s k)
  relinked_later g part written k = elim (cases_eq k node) [
    | inl e ↦ subst (λ (j : ℕ). stored_of later j ≡ relinked node part g j (stored_of s j)) (sym e) at_node
    | inr e ↦ ap info_of (updates.others k e) ∙ sym (ap (λ b. cond b (with_kids part g (stored_of s k)) (stored_of s k)) (ne_eqb k node e))
  ]
    where
      at_node : stored_of later node ≡ relinked node part g node (stored_of s node)
      at_node = ap info_of updates.changed ∙ ap (λ (cs : List Kept). let i : Info = record { class = a.class; up = up_view a.up; index = a.number; cells = cs } in Some i) written ∙
          ap (λ o. with_kids part g (info_of o)) there ∙ sym (ap (λ b. cond b (with_kids part g (stored_of s node)) (stored_of s node)) (eq-eqb node node refl))

-- where no node is nothing is written
pub relinked_nowhere : (s : Slab Entry) (node : ℕ) → None ≡ get s node → (g : List ℕ → List ℕ) (part k : ℕ) → stored_of s k ≡ relinked node part g k (stored_of s k)
relinked_nowhere s node none g part k = elim (cases_eq k node) [
  | inl e ↦ subst (λ (j : ℕ). stored_of s j ≡ relinked node part g j (stored_of s j)) (sym e)
      (subst (λ (o : Option Info). o ≡ cond (nat_eq node node) (with_kids part g o) o) (ap info_of none)
      (either (nat_eq node node)))
  | inr e ↦ sym (ap (λ b. cond b (with_kids part g (stored_of s k)) (stored_of s k)) (ne_eqb k node e))
]
  where
    either : (b : Bool) → None ≡ cond b (with_kids part g None) None
    either true = refl
    either false = refl

pub no_room_needed : (s : Slab Entry) (node part : ℕ) → None ≡ get s node → HasRoom s node part
no_room_needed s node part none = subst (λ (o : Option Entry). HasSpace (slice_get (slots_of o) part)) none tt
