-- Elements of lists at their positions.
use Rattle.std.proofs.Common.{◌≡◌, ℕ, zero, suc, ◌+◌, ◌<◌, List, [], ◌∷◌, ◌++◌, length, drop, get_or, Some, refl, sym, ap, ◌∙◌, subst, arith, length-append}
use Rattle.std.proofs.Math.Seq.{drop-cons}
use Rattle.std.proofs.lemmas.Option.{slice_get_within}
use Rattle.std.specs.Prelude.{slice_get, slice_set, remove}
use Rattle.std.specs.List.{AllByRecursion}

-- what is left from the position on begins with its element
pub drop_next : {A : Type 0} (xs : List A) (i : ℕ) (a : A) → i < length xs → a ≡ get_or xs i a → drop i xs ≡ a ∷ drop (i + 1) xs
drop_next xs i a less is =
    let next : suc i ≡ i + 1 = omega arith in
    drop-cons xs i a less ∙ ap (λ y. y ∷ drop (suc i) xs) (sym is) ∙ ap (λ n. a ∷ drop n xs) next

-- what stands before the element at the position, and behind it
pub record IsAt {A : Type 0} (xs : List A) (i : ℕ) (a : A) : Type 0 where
  pub front : List A
  pub back : List A
  pub split : xs ≡ front ++ a ∷ back
  pub set : (b : A) → slice_set xs i b ≡ front ++ b ∷ back
  pub removed : remove xs i ≡ front ++ back

pub at_position : {A : Type 0} (xs : List A) (i : ℕ) (a : A) → slice_get xs i ≡ Some a → IsAt xs i a
at_position [] zero a e = absurd cc
at_position [] (suc i) a e = absurd cc
at_position (x ∷ xs) zero a e = let same : x ≡ a = cc in record { front = []; back = xs; split = ap (λ y. y ∷ xs) same; set = λ b. refl; removed = refl }
at_position (x ∷ xs) (suc i) a e = let r = at_position xs i a e in record { front = x ∷ r.front; back = r.back; split = ap (λ l. x ∷ l) r.split; set = λ b. ap (λ l. x ∷ l) (r.set b); removed = ap (λ l. x ∷ l) r.removed }

-- at a position within the list something stands
pub there_at : {A : Type 0} (xs : List A) (i : ℕ) → i < length xs → (a : A) × (slice_get xs i ≡ Some a)
there_at [] i h = absurd (omega (arith, h))
there_at (x ∷ xs) zero h = (x, refl)
there_at (x ∷ xs) (suc i) h = there_at xs i (omega (arith, h))

-- what was put there stands there, and may be put anew
pub get_set : {A : Type 0} (xs : List A) (i : ℕ) (a b : A) → slice_get xs i ≡ Some a → slice_get (slice_set xs i b) i ≡ Some b
get_set [] zero a b e = absurd cc
get_set [] (suc i) a b e = absurd cc
get_set (x ∷ xs) zero a b e = refl
get_set (x ∷ xs) (suc i) a b e = get_set xs i a b e

pub set_set : {A : Type 0} (xs : List A) (i : ℕ) (a b : A) → slice_set (slice_set xs i a) i b ≡ slice_set xs i b
set_set [] zero a b = refl
set_set [] (suc i) a b = refl
set_set (x ∷ xs) zero a b = refl
set_set (x ∷ xs) (suc i) a b = ap (λ l. x ∷ l) (set_set xs i a b)

pub within_set : {A : Type 0} (xs : List A) (i : ℕ) (a b : A) → slice_get xs i ≡ Some a → i < length (slice_set xs i b)
within_set xs i a b e = slice_get_within (slice_set xs i b) i b (get_set xs i a b e)

-- it is one less without the element
pub one_less : {A : Type 0} (xs : List A) (i : ℕ) → i < length xs → length (remove xs i) + 1 ≡ length xs
one_less xs i h =
    let (a, e) = there_at xs i h in
    let r = at_position xs i a e in
    omega (arith, ap length r.removed, ap length r.split, length-append r.front r.back, length-append r.front (a ∷ r.back))

-- one element stands at a position
pub same_there : {A : Type 0} (xs : List A) (i : ℕ) (a b : A) → slice_get xs i ≡ Some a → slice_get xs i ≡ Some b → a ≡ b
same_there xs i a b e f = let same : Some a ≡ Some b = sym e ∙ f in some_same a b same
  where
    some_same : {A : Type 0} (a b : A) → Some a ≡ Some b → a ≡ b
    some_same a b h = cc

-- what holds of all
module _ {A : Type 0} {P Q : A → Type 0} where
  pub all_so : ((a : A) → P a → Q a) → (xs : List A) → AllByRecursion P xs → AllByRecursion Q xs
  all_so f [] h = tt
  all_so f (x ∷ xs) h = (f x h.0, all_so f xs h.1)

module _ {A : Type 0} (P : A → Type 0) where
  pub all_split : (front : List A) (a : A) (back : List A) → AllByRecursion P (front ++ a ∷ back) → P a
  all_split [] a back h = h.0
  all_split (x ∷ front) a back h = all_split front a back h.1

  pub all_put : (front : List A) (a b : A) (back : List A) → P b → AllByRecursion P (front ++ a ∷ back) → AllByRecursion P (front ++ b ∷ back)
  all_put [] a b back p h = (p, h.1)
  all_put (x ∷ front) a b back p h = (h.0, all_put front a b back p h.1)

  pub all_without : (front : List A) (a : A) (back : List A) → AllByRecursion P (front ++ a ∷ back) → AllByRecursion P (front ++ back)
  all_without [] a back h = h.1
  all_without (x ∷ front) a back h = (h.0, all_without front a back h.1)

  pub all_push : (xs : List A) (a : A) → P a → AllByRecursion P xs → AllByRecursion P (xs ++ a ∷ [])
  all_push [] a p h = (p, tt)
  all_push (x ∷ xs) a p h = (h.0, all_push xs a p h.1)

  -- of the one at the position, with another one there, and without it
  module _ (xs : List A) (i : ℕ) (a : A) (e : slice_get xs i ≡ Some a) (h : AllByRecursion P xs) where
    pub holds_at : P a
    holds_at = let r = at_position xs i a e in all_split r.front a r.back (subst (AllByRecursion P) r.split h)

    pub holds_put : (b : A) → P b → AllByRecursion P (slice_set xs i b)
    holds_put b p = let r = at_position xs i a e in subst (AllByRecursion P) (sym (r.set b)) (all_put r.front a b r.back p (subst (AllByRecursion P) r.split h))

    pub holds_without : AllByRecursion P (remove xs i)
    holds_without = let r = at_position xs i a e in subst (AllByRecursion P) (sym r.removed) (all_without r.front a r.back (subst (AllByRecursion P) r.split h))
