-- What stands at places of lists.
use Rattle.std.proofs.Common.{◌≡◌, ℕ, zero, suc, ◌+◌, ◌<◌, ◌≤◌, ◌⊎◌, inl, inr, List, [], ◌∷◌, ◌++◌, length, refl, ap, sym, ◌∙◌, subst, arith, Option, Some, None}
use Rattle.std.specs.Prelude.{set, slice_get, take, drop}
use Rattle.at_model.specs.Meaning.{Among}
use Rattle.at_solve.specs.Searching.{At}

some_is : {A : Type 0} {x y : A} → Some x ≡ Some y → x ≡ y
some_is {A} {x} {y} e = cc

pub at_within : {A : Type 0} (xs : List A) (n : ℕ) (x : A) → At xs n x → n < length xs
at_within [] n x e = absurd cc
at_within (y ∷ ys) zero x e = omega arith
at_within (y ∷ ys) (suc n) x e = omega (arith, at_within ys n x e)

pub at_once : {A : Type 0} (xs : List A) (n : ℕ) (x y : A) → At xs n x → At xs n y → x ≡ y
at_once xs n x y h k = some_is (sym h ∙ k)

pub at_front : {A : Type 0} (xs ys : List A) (n : ℕ) (x : A) → At xs n x → At (xs ++ ys) n x
at_front [] ys n x e = absurd cc
at_front (y ∷ xs) ys zero x e = e
at_front (y ∷ xs) ys (suc n) x e = at_front xs ys n x e

pub at_last : {A : Type 0} (xs : List A) (x : A) → At (xs ++ x ∷ []) (length xs) x
at_last [] x = refl
at_last (y ∷ xs) x = at_last xs x

-- in front, or behind it
pub at_or : {A : Type 0} (xs ys : List A) (n : ℕ) (x : A) → At (xs ++ ys) n x → At xs n x ⊎ ((length xs ≤ n) × Among x ys)
at_or {A} [] ys n x e = inr (omega arith, among ys n e)
  where
    among : (zs : List A) (m : ℕ) → At zs m x → Among x zs
    among [] m h = absurd cc
    among (z ∷ zs) zero h = inl (some_is (sym h))
    among (z ∷ zs) (suc m) h = inr (among zs m h)
at_or (y ∷ xs) ys zero x e = inl e
at_or (y ∷ xs) ys (suc n) x e = elim (at_or xs ys n x e) [ inl h ↦ inl h | inr (from, h) ↦ inr (omega (arith, from), h) ]

-- in front, or the last one
pub at_or_last : {A : Type 0} (xs : List A) (y : A) (n : ℕ) (x : A) → At (xs ++ y ∷ []) n x → At xs n x ⊎ ((n ≡ length xs) × (x ≡ y))
at_or_last [] y zero x e = inr (refl, some_is (sym e))
at_or_last [] y (suc n) x e = absurd cc
at_or_last (z ∷ xs) y zero x e = inl e
at_or_last (z ∷ xs) y (suc n) x e = elim (at_or_last xs y n x e) [ inl h ↦ inl h | inr (is, h) ↦ inr (ap suc is, h) ]

pub at_behind : {A : Type 0} (xs ys : List A) (y : A) → Among y ys → (n : ℕ) × (length xs ≤ n) × At (xs ++ ys) n y
at_behind [] [] y h = absurd h
at_behind [] (z ∷ ys) y (inl e) = (0, omega arith, ap Some (sym e))
at_behind [] (z ∷ ys) y (inr h) = let (n, from, more) = at_behind [] ys y h in (suc n, omega arith, more)
at_behind (x ∷ xs) ys y h = let (n, from, more) = at_behind xs ys y h in (suc n, omega (arith, from), more)

pub at_take : {A : Type 0} (xs : List A) (m n : ℕ) (x : A) → At (take m xs) n x → At xs n x × (n < m)
at_take [] zero n x e = absurd cc
at_take [] (suc m) n x e = absurd cc
at_take (y ∷ xs) zero n x e = absurd cc
at_take (y ∷ xs) (suc m) zero x e = (e, omega arith)
at_take (y ∷ xs) (suc m) (suc n) x e = let (h, less) = at_take xs m n x e in (h, omega (arith, less))

pub at_taken : {A : Type 0} (xs : List A) (m n : ℕ) (x : A) → At xs n x → n < m → At (take m xs) n x
at_taken [] m n x e less = absurd cc
at_taken (y ∷ xs) zero n x e less = absurd (omega (arith, less))
at_taken (y ∷ xs) (suc m) zero x e less = e
at_taken (y ∷ xs) (suc m) (suc n) x e less = at_taken xs m n x e (omega (arith, less))

pub among_dropped : {A : Type 0} (xs : List A) (m n : ℕ) (x : A) → At xs n x → m ≤ n → Among x (drop m xs)
among_dropped [] m n x e from = absurd cc
among_dropped (y ∷ xs) zero zero x e from = inl (some_is (sym e))
among_dropped (y ∷ xs) zero (suc n) x e from = inr (among_dropped xs zero n x e (omega arith))
among_dropped (y ∷ xs) (suc m) zero x e from = absurd (omega (arith, from))
among_dropped (y ∷ xs) (suc m) (suc n) x e from = among_dropped xs m n x e (omega (arith, from))

pub dropped_at : {A : Type 0} (xs : List A) (m : ℕ) (x : A) → Among x (drop m xs) → (n : ℕ) × (m ≤ n) × At xs n x
dropped_at [] zero x h = absurd h
dropped_at [] (suc m) x h = absurd h
dropped_at (y ∷ xs) zero x (inl e) = (0, omega arith, ap Some (sym e))
dropped_at (y ∷ xs) zero x (inr h) = let (n, from, more) = dropped_at xs zero x h in (suc n, omega arith, more)
dropped_at (y ∷ xs) (suc m) x h = let (n, from, more) = dropped_at xs m x h in (suc n, omega (arith, from), more)

pub set_here : {A : Type 0} (xs : List A) (n : ℕ) (x : A) → n < length xs → At (set xs n x) n x
set_here [] n x less = absurd (omega (arith, less))
set_here (y ∷ xs) zero x less = refl
set_here (y ∷ xs) (suc n) x less = set_here xs n x (omega (arith, less))

pub set_there : {A : Type 0} (xs : List A) (n m : ℕ) (x : A) → (m ≡ n → ⊥) → slice_get (set xs n x) m ≡ slice_get xs m
set_there [] n m x other = refl
set_there (y ∷ xs) zero zero x other = absurd (other refl)
set_there (y ∷ xs) zero (suc m) x other = refl
set_there (y ∷ xs) (suc n) zero x other = refl
set_there (y ∷ xs) (suc n) (suc m) x other = set_there xs n m x (λ e. other (ap suc e))
