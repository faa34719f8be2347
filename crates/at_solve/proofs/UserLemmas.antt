-- Lists of those that name a condition.
use Rattle.std.proofs.Common.{◌≡◌, ℕ, zero, suc, ◌+◌, ◌<◌, ◌≤◌, ◌⊎◌, inl, inr, List, [], ◌∷◌, ◌++◌, length, refl, ap, sym, ◌∙◌, subst, arith, Option, Some, None}
use Rattle.std.specs.Prelude.{drop, get_or, slice_get, slice_set, Vec}
use Rattle.at_model.specs.Meaning.{Among}
use Rattle.at_solve.specs.declared.condition.Condition.{Condition}
use Rattle.at_solve.specs.Spreading.{AreListed, named, Names, NamesIn, users_at}
use Rattle.at_solve.proofs.SpreadingLemmas.{same_or, within}

pub among_last : (u : ℕ) (us : List ℕ) → Among u (us ++ u ∷ [])
among_last u [] = inl refl
among_last u (w ∷ us) = inr (among_last u us)

pub among_more : (u w : ℕ) (us : List ℕ) → Among u us → Among u (us ++ w ∷ [])
among_more u w [] h = absurd h
among_more u w (x ∷ us) (inl e) = inl e
among_more u w (x ∷ us) (inr h) = inr (among_more u w us h)

-- with that list in its place
pub users_here : {Z : Type 0} (lists : List (Vec ℕ Z)) (p : ℕ) (v : Vec ℕ Z) → p < length lists → users_at (slice_set lists p v) p ≡ v.items
users_here [] p v less = absurd (omega (arith, less))
users_here (w ∷ ws) zero v less = refl
users_here (w ∷ ws) (suc p) v less = users_here ws p v (omega (arith, less))

pub users_there : {Z : Type 0} (lists : List (Vec ℕ Z)) (p q : ℕ) (v : Vec ℕ Z) → (q ≡ p → ⊥) → users_at (slice_set lists p v) q ≡ users_at lists q
users_there [] p q v other = refl
users_there (w ∷ ws) zero zero v other = absurd (other refl)
users_there (w ∷ ws) zero (suc q) v other = refl
users_there (w ∷ ws) (suc p) zero v other = refl
users_there (w ∷ ws) (suc p) (suc q) v other = users_there ws p q v (λ e. other (ap suc e))

pub users_read : {Z : Type 0} (lists : List (Vec ℕ Z)) (p : ℕ) (d : Vec ℕ Z) → p < length lists → (get_or lists p d).items ≡ users_at lists p
users_read [] p d less = absurd (omega (arith, less))
users_read (w ∷ ws) zero d less = refl
users_read (w ∷ ws) (suc p) d less = users_read ws p d (omega (arith, less))

-- one more in a list
pub one_more : {Z : Type 0} (lists : List (Vec ℕ Z)) (of position : ℕ) (v d : Vec ℕ Z) → of < length lists
    → v.items ≡ (get_or lists of d).items ++ position ∷ [] → users_at (slice_set lists of v) of ≡ users_at lists of ++ position ∷ []
one_more lists of position v d less is = users_here lists of v less ∙ is ∙ ap (λ us. us ++ position ∷ []) (users_read lists of d less)

pub kept : {Z : Type 0} (lists : List (Vec ℕ Z)) (of position : ℕ) (v d : Vec ℕ Z) → of < length lists
    → v.items ≡ (get_or lists of d).items ++ position ∷ [] → (u p : ℕ) → Among u (users_at lists p) → Among u (users_at (slice_set lists of v) p)
kept lists of position v d less is u p h = elim (same_or p of) [
  | inl e ↦ subst (λ z. Among u (users_at (slice_set lists of v) z)) (sym e)
      (subst (Among u) (sym (one_more lists of position v d less is)) (among_more u position (users_at lists of) (subst (λ z. Among u (users_at lists z)) e h)))
  | inr other ↦ subst (Among u) (sym (users_there lists of p v other)) h
]

pub added : {Z : Type 0} (lists : List (Vec ℕ Z)) (of position : ℕ) (v d : Vec ℕ Z) → of < length lists
    → v.items ≡ (get_or lists of d).items ++ position ∷ [] → Among position (users_at (slice_set lists of v) of)
added lists of position v d less is = subst (Among position) (sym (one_more lists of position v d less is)) (among_last position (users_at lists of))

-- there is what is read
pub read_at : {A : Type 0} (xs : List A) (n : ℕ) (d : A) → n < length xs → slice_get xs n ≡ Some (get_or xs n d)
read_at [] n d less = absurd (omega (arith, less))
read_at (x ∷ xs) zero d less = refl
read_at (x ∷ xs) (suc n) d less = read_at xs n d (omega (arith, less))

pub before_or : (u n : ℕ) → u < n + 1 → (u < n) ⊎ (u ≡ n)
before_or zero zero less = inr refl
before_or zero (suc n) less = inl (omega arith)
before_or (suc u) zero less = absurd (omega (arith, less))
before_or (suc u) (suc n) less = elim (before_or u n (omega (arith, less))) [ inl l ↦ inl (omega (arith, l)) | inr e ↦ inr (ap suc e) ]

pub from_or : (n u : ℕ) → n ≤ u → (u ≡ n) ⊎ (n + 1 ≤ u)
from_or zero zero from = inl refl
from_or zero (suc u) from = inr (omega arith)
from_or (suc n) zero from = absurd (omega (arith, from))
from_or (suc n) (suc u) from = elim (from_or n u (omega (arith, from))) [ inl e ↦ inl (ap suc e) | inr l ↦ inr (omega (arith, l)) ]

-- among the rest of a list, or the first of it
first_behind : {A : Type 0} (xs : List A) (n : ℕ) (d u : A) → Among u (drop n xs) → (u ≡ get_or xs n d) ⊎ Among u (drop (suc n) xs)
first_behind [] zero d u h = absurd h
first_behind [] (suc n) d u h = absurd h
first_behind (x ∷ xs) zero d u (inl e) = inl e
first_behind (x ∷ xs) zero d u (inr h) = inr h
first_behind (x ∷ xs) (suc n) d u h = first_behind xs n d u h

pub first_or : {A : Type 0} (xs : List A) (n : ℕ) (d u : A) → Among u (drop n xs) → (u ≡ get_or xs n d) ⊎ Among u (drop (n + 1) xs)
first_or xs n d u h =
    let next : suc n ≡ n + 1 = omega arith in
    subst (λ m. (u ≡ get_or xs n d) ⊎ Among u (drop m xs)) next (first_behind xs n d u h)

-- the conditions up to here are listed
abbrev pub ListedTo : {Z : Type 0} → List Condition → ℕ → List (Vec ℕ Z) → Type 0
ListedTo system n users = (u p : ℕ) → u < n → Names system u p → p < length system → Among u (users_at users p)

pub one_further : {Z : Type 0} (system : List Condition) (n : ℕ) (users new : List (Vec ℕ Z)) (q d : Condition) → n < length system → q ≡ get_or system n d
    → length users ≡ length system → ((u p : ℕ) → Among u (users_at users p) → Among u (users_at new p))
    → ((p : ℕ) → Among p (named q) → p < length users → Among n (users_at new p)) → ListedTo system n users → ListedTo system (n + 1) new
one_further system n users new q d less is size stay noted before u p near names room = elim (before_or u n near) [
  | inl l ↦ stay u p (before u p l names room)
  | inr e ↦ subst (λ z. Among z (users_at new p)) (sym e)
      (noted p (here (subst (λ z. Names system z p) e names)) (omega (arith, room, size)))
]
  where
    here : Names system n p → Among p (named q)
    here h = subst (λ z. Among p (named z)) (sym is) (subst (λ o. NamesIn o p) (read_at system n d less) h)

-- what names another one is there
pub names_within : (system : List Condition) (u p : ℕ) → Names system u p → u < length system
names_within [] u p h = absurd h
names_within (x ∷ xs) zero p h = omega arith
names_within (x ∷ xs) (suc u) p h = omega (arith, names_within xs u p h)

-- all are
pub all_listed : {Z : Type 0} (system : List Condition) (n : ℕ) (users : List (Vec ℕ Z)) → n ≡ length system → length users ≡ length system → ListedTo system n users → AreListed system users
all_listed system n users count size to = record {
  size = size;
  listed = λ u p names room. to u p (subst (λ z. u < z) (sym count) (names_within system u p names)) names room;
}

-- put into the lists of two
pub twice : {Z : Type 0} (before mid new : List (Vec ℕ Z)) (one other position : ℕ) → length mid ≡ length before
    → ((u p : ℕ) → Among u (users_at mid p) → Among u (users_at new p)) → (one < length before → Among position (users_at mid one))
    → (other < length mid → Among position (users_at new other)) → (p : ℕ) → (p ≡ one) ⊎ ((p ≡ other) ⊎ ⊥) → p < length before → Among position (users_at new p)
twice before mid new one other position size stay first second p (inl e) less =
    stay position p (subst (λ z. Among position (users_at mid z)) (sym e) (first (subst (λ z. z < length before) e less)))
twice before mid new one other position size stay first second p (inr (inl e)) less =
    subst (λ z. Among position (users_at new z)) (sym e) (second (omega (arith, size, e, less)))
twice before mid new one other position size stay first second p (inr (inr off)) less = absurd off

pub once : {Z : Type 0} (before new : List (Vec ℕ Z)) (one position : ℕ) → (one < length before → Among position (users_at new one))
    → (p : ℕ) → (p ≡ one) ⊎ ⊥ → p < length before → Among position (users_at new p)
once before new one position first p (inl e) less = subst (λ z. Among position (users_at new z)) (sym e) (first (subst (λ z. z < length before) e less))
once before new one position first p (inr off) less = absurd off
