-- A slot that is taken out of its place, changed and put back.
use Rattle.std.proofs.Common.{◌≡◌, ℕ, zero, suc, List, [], ◌∷◌, get_or, map, slice_set, take, Some, refl, sym, ap, ◌∙◌, subst}
use Rattle.std.specs.List.{slice_get}
use Rattle.at_model.specs.Edits.{changed_at}
use Rattle.at_store.specs.Held.{vacant_slot}
use Rattle.at_store.specs.Memory.{Kept, numbers_in}
use Rattle.at_store.specs.Reserving.{HasSpace}
use Rattle.at_store.specs.View.{kept_view}
use Rattle.at_store.specs.declared.entry.Slot.{Slot}
use Rattle.at_store.proofs.Slots.{set_shown}
use Rattle.at_store.proofs.Written.{slot_same}
use Rattle.at_store.proofs.of_edits.Reserved.{space_kept, space_taken}

set_twice : (xs : List Slot) (i : ℕ) (a b : Slot) → slice_set (slice_set xs i a) i b ≡ slice_set xs i b
set_twice [] zero a b = refl
set_twice [] (suc i) a b = refl
set_twice (x ∷ xs) zero a b = refl
set_twice (x ∷ xs) (suc i) a b = ap (λ ys. x ∷ ys) (set_twice xs i a b)

get_again : (xs : List Slot) (i : ℕ) (d : Slot) → get_or xs i (get_or xs i d) ≡ get_or xs i d
get_again [] i d = refl
get_again (x ∷ xs) zero d = refl
get_again (x ∷ xs) (suc i) d = get_again xs i d

-- xs without the slot a is away, and with b in its place it is back
module _ (xs away back : List Slot) (i : ℕ) (a b : Slot)
    (taken : a ≡ get_or xs i vacant_slot) (left : away ≡ slice_set xs i vacant_slot) (put : back ≡ slice_set away i b) where
  whole : back ≡ slice_set xs i b
  whole = put ∙ ap (λ ys. slice_set ys i b) left ∙ set_twice xs i vacant_slot b

  there : get_or xs i a ≡ a
  there = ap (get_or xs i) taken ∙ get_again xs i vacant_slot ∙ sym taken

  pub back_shown : (g : Kept → Kept) → kept_view b ≡ g (kept_view a) → map kept_view back ≡ changed_at g (map kept_view xs) i
  back_shown g h = ap (map kept_view) whole ∙ set_shown kept_view g xs i a b there h

  pub back_same : kept_view b ≡ kept_view a → map kept_view back ≡ map kept_view xs
  back_same h = ap (map kept_view) whole ∙ slot_same xs i a b there h

  pub back_room : (HasSpace (Some a) → HasSpace (Some b)) → (p : ℕ) → HasSpace (slice_get xs p) → HasSpace (slice_get back p)
  back_room f p h = subst (λ (ys : List Slot). HasSpace (slice_get ys p)) (sym whole) (space_kept xs i a b there f p h)

-- what is put back has the room that it was given
pub room_back : (away back : List Slot) (i : ℕ) (b : Slot) → back ≡ slice_set away i b → HasSpace (Some b) → HasSpace (slice_get back i)
room_back away back i b put h = subst (λ (ys : List Slot). HasSpace (slice_get ys i)) (sym put) (space_taken away i b h)

-- what is taken out has the room and the children that its place had
pub room_out : (xs : List Slot) (i : ℕ) → HasSpace (slice_get xs i) → HasSpace (Some (get_or xs i vacant_slot))
room_out [] i h = tt
room_out (x ∷ xs) zero h = h
room_out (x ∷ xs) (suc i) h = room_out xs i h

pub kids_out : (xs : List Slot) (i : ℕ) → numbers_in (slice_get (map kept_view xs) i) ≡ numbers_in (Some (kept_view (get_or xs i vacant_slot)))
kids_out [] i = refl
kids_out (x ∷ xs) zero = refl
kids_out (x ∷ xs) (suc i) = kids_out xs i

-- a place among the first n is written
pub take_set : (n : ℕ) (xs : List Slot) (i : ℕ) (s : Slot) → take n (slice_set xs i s) ≡ slice_set (take n xs) i s
take_set zero xs zero s = refl
take_set zero xs (suc i) s = refl
take_set (suc n) [] zero s = refl
take_set (suc n) [] (suc i) s = refl
take_set (suc n) (x ∷ xs) zero s = refl
take_set (suc n) (x ∷ xs) (suc i) s = ap (λ ys. x ∷ ys) (take_set n xs i s)

-- such a place that is written shows what it came to
pub row_shown : (g : Kept → Kept) (n : ℕ) (xs : List Slot) (i : ℕ) (d b : Slot) → kept_view b ≡ g (kept_view (get_or xs i d))
    → map kept_view (take n (slice_set xs i b)) ≡ changed_at g (map kept_view (take n xs)) i
row_shown g zero xs i d b h = refl
row_shown g (suc n) [] zero d b h = refl
row_shown g (suc n) [] (suc i) d b h = refl
row_shown g (suc n) (x ∷ xs) zero d b h = ap (λ y. y ∷ map kept_view (take n xs)) h
row_shown g (suc n) (x ∷ xs) (suc i) d b h = ap (λ ys. kept_view x ∷ ys) (row_shown g n xs i d b h)

pub row_same : (n : ℕ) (xs : List Slot) (i : ℕ) (d b : Slot) → kept_view b ≡ kept_view (get_or xs i d)
    → map kept_view (take n (slice_set xs i b)) ≡ map kept_view (take n xs)
row_same zero xs i d b h = refl
row_same (suc n) [] zero d b h = refl
row_same (suc n) [] (suc i) d b h = refl
row_same (suc n) (x ∷ xs) zero d b h = ap (λ y. y ∷ map kept_view (take n xs)) h
row_same (suc n) (x ∷ xs) (suc i) d b h = ap (λ ys. kept_view x ∷ ys) (row_same n xs i d b h)
