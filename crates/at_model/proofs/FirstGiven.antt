-- What is given first in a list, and what is found in one.
use Rattle.std.proofs.Common.{◌≡◌, ℕ, zero, suc, ◌+◌, ◌<◌, inl, inr, Bool, true, false, cond, ◌||◌, List, [], ◌∷◌, take, Option, Some, None, refl, ap, ◌∙◌, subst, arith}
use Rattle.std.specs.Prelude.{if◌then◌else◌, is_some, position}
use Rattle.std.specs.Option.{option_or}
use Rattle.std.specs.List.{slice_get, list_any, list_all, position_from}
use Rattle.std.proofs.lemmas.Iterator.Adapters.{position_from-zero}
use Rattle.at_model.specs.Declarations.{Place, Declaration, Declarations, PartDeclaration, first_given, first_class, first_part}
use Rattle.at_model.proofs.Options.{both, and_true, either_true, or_right}

pub off_on : (b : Bool) → b ≡ false → b ≡ true → ⊥
off_on true e f = absurd cc
off_on false e f = absurd cc

neither : {B : Type 0} (a b : Option B) → option_or a b ≡ None → (a ≡ None) × (b ≡ None)
neither None b h = (refl, h)
neither (Some a) b h = absurd cc

both_none : {B : Type 0} (a b : Option B) → a ≡ None → b ≡ None → option_or a b ≡ None
both_none None b e f = f
both_none (Some a) b e f = absurd cc

module _ {A B : Type 0} (f : ℕ → A → Option B) where
  -- where nothing is given, no element gives anything
  given_none : (k : ℕ) (xs : List A) → first_given f k xs ≡ None → (i : ℕ) (x : A) → slice_get xs i ≡ Some x → f (k + i) x ≡ None
  given_none k [] none i x e = absurd cc
  given_none k (y ∷ ys) none zero x e =
      let n : k ≡ k + 0 = omega arith in
      let same : y ≡ x = cc in
      subst (λ z. f (k + 0) z ≡ None) same (subst (λ m. f m y ≡ None) n (neither (f k y) (first_given f (k + 1) ys) none).0)
  given_none k (y ∷ ys) none (suc i) x e =
      let n : (k + 1) + i ≡ k + suc i = omega arith in
      subst (λ m. f m x ≡ None) n (given_none (k + 1) ys (neither (f k y) (first_given f (k + 1) ys) none).1 i x e)

  none_given : (k : ℕ) (xs : List A) → ((i : ℕ) (x : A) → slice_get xs i ≡ Some x → f (k + i) x ≡ None) → first_given f k xs ≡ None
  none_given k [] h = refl
  none_given k (y ∷ ys) h =
      let n : k + 0 ≡ k = omega arith in
      both_none (f k y) (first_given f (k + 1) ys) (subst (λ m. f m y ≡ None) n (h 0 y refl)) (none_given (k + 1) ys
      (λ i x e. let m : k + suc i ≡ (k + 1) + i = omega arith in subst (λ z. f z x ≡ None) m (h (suc i) x e)))

  pub none_at : (xs : List A) → first_given f 0 xs ≡ None → (i : ℕ) (x : A) → slice_get xs i ≡ Some x → f i x ≡ None
  none_at xs none i x e = let n : 0 + i ≡ i = omega arith in subst (λ m. f m x ≡ None) n (given_none 0 xs none i x e)

  pub none_anywhere : (xs : List A) → ((i : ℕ) (x : A) → slice_get xs i ≡ Some x → f i x ≡ None) → first_given f 0 xs ≡ None
  none_anywhere xs h = none_given 0 xs (λ i x e. let n : i ≡ 0 + i = omega arith in subst (λ m. f m x ≡ None) n (h i x e))

unplaced : (b : Bool) (p : Place) → (if b then Some p else None) ≡ None → b ≡ false
unplaced true p e = absurd cc
unplaced false p e = refl

no_place : (b : Bool) (p : Place) → b ≡ false → (if b then Some p else None) ≡ None
no_place true p e = absurd cc
no_place false p e = refl

-- no class fails the test
pub classes_pass : (test : ℕ → Declaration → Bool) (ds : Declarations) → first_class test ds ≡ None → (c : ℕ) (d : Declaration) → slice_get ds c ≡ Some d → test c d ≡ false
classes_pass test ds none c d e = unplaced (test c d) d.at (none_at (λ c (d : Declaration). if test c d then Some d.at else None) ds none c d e)

pub no_class_fails : (test : ℕ → Declaration → Bool) (ds : Declarations) → ((c : ℕ) (d : Declaration) → slice_get ds c ≡ Some d → test c d ≡ false) → first_class test ds ≡ None
no_class_fails test ds h = none_anywhere (λ c (d : Declaration). if test c d then Some d.at else None) ds (λ c d e. no_place (test c d) d.at (h c d e))

abbrev part_place : (ℕ → ℕ → PartDeclaration → Bool) → ℕ → ℕ → PartDeclaration → Option Place
part_place test c i p = if test c i p then Some p.at else None

abbrev parts_place : (ℕ → ℕ → PartDeclaration → Bool) → ℕ → Declaration → Option Place
parts_place test c d = first_given (part_place test c) 0 d.parts

-- no component fails the test
pub parts_pass : (test : ℕ → ℕ → PartDeclaration → Bool) (ds : Declarations) → first_part test ds ≡ None
    → (c i : ℕ) (d : Declaration) (p : PartDeclaration) → slice_get ds c ≡ Some d → slice_get d.parts i ≡ Some p
    → test c i p ≡ false
parts_pass test ds none c i d p e f = unplaced (test c i p) p.at (none_at (part_place test c) d.parts (none_at (parts_place test) ds none c d e) i p f)

pub no_part_fails : (test : ℕ → ℕ → PartDeclaration → Bool) (ds : Declarations)
    → ((c i : ℕ) (d : Declaration) (p : PartDeclaration) → slice_get ds c ≡ Some d → slice_get d.parts i ≡ Some p
    → test c i p ≡ false) → first_part test ds ≡ None
no_part_fails test ds h = none_anywhere (parts_place test) ds (λ c d e. none_anywhere (part_place test c) d.parts (λ i p f. no_place (test c i p) p.at (h c i d p e f)))

module _ {A : Type 0} (p : A → Bool) where
  -- an element before that position passes
  pub any_before : (xs : List A) (k i : ℕ) (x : A) → i < k → slice_get xs i ≡ Some x → p x ≡ true → list_any p (take k xs) ≡ true
  any_before [] k i x l e f = absurd cc
  any_before (y ∷ ys) zero i x l e f = absurd (omega (arith, l))
  any_before (y ∷ ys) (suc k) zero x l e f = let same : x ≡ y = cc in ap (λ b. b || list_any p (take k ys)) (subst (λ z. p z ≡ true) same f)
  any_before (y ∷ ys) (suc k) (suc i) x l e f = or_right (p y) _ (any_before ys k i x (omega (arith, l)) e f)

  pub before_any : (xs : List A) (k : ℕ) → list_any p (take k xs) ≡ true → (i : ℕ) × (x : A) × (i < k) × (slice_get xs i ≡ Some x) × (p x ≡ true)
  before_any [] zero e = absurd cc
  before_any [] (suc k) e = absurd cc
  before_any (y ∷ ys) zero e = absurd cc
  before_any (y ∷ ys) (suc k) e = elim (either_true (p y) _ e) [
    | inl f ↦ (0, y, omega arith, refl, f)
    | inr f ↦ let (i, x, l, g, h) = before_any ys k f in (suc i, x, omega (arith, l), g, h)
  ]

  pub any_there : (xs : List A) (i : ℕ) (x : A) → slice_get xs i ≡ Some x → p x ≡ true → list_any p xs ≡ true
  any_there [] i x e f = absurd cc
  any_there (y ∷ ys) zero x e f = let same : x ≡ y = cc in ap (λ b. b || list_any p ys) (subst (λ z. p z ≡ true) same f)
  any_there (y ∷ ys) (suc i) x e f = or_right (p y) _ (any_there ys i x e f)

  pub there_any : (xs : List A) → list_any p xs ≡ true → (i : ℕ) × (x : A) × (slice_get xs i ≡ Some x) × (p x ≡ true)
  there_any [] e = absurd cc
  there_any (y ∷ ys) e = elim (either_true (p y) _ e) [
    | inl f ↦ (0, y, refl, f)
    | inr f ↦ let (i, x, g, h) = there_any ys f in (suc i, x, g, h)
  ]

  pub all_there : (xs : List A) → list_all p xs ≡ true → (i : ℕ) (x : A) → slice_get xs i ≡ Some x → p x ≡ true
  all_there [] h i x e = absurd cc
  all_there (y ∷ ys) h zero x e = let same : y ≡ x = cc in subst (λ z. p z ≡ true) same (both (p y) _ h).0
  all_there (y ∷ ys) h (suc i) x e = all_there ys (both (p y) _ h).1 i x e

  pub there_all : (xs : List A) → ((i : ℕ) (x : A) → slice_get xs i ≡ Some x → p x ≡ true) → list_all p xs ≡ true
  there_all [] h = refl
  there_all (y ∷ ys) h = and_true (p y) (list_all p ys) (h 0 y refl) (there_all ys (λ i x e. h (suc i) x e))

  position_any : (k : ℕ) (xs : List A) → is_some (position_from p k xs) ≡ list_any p xs
  position_any k [] = refl
  position_any k (y ∷ ys) = by_test (p y) (position_any (k + 1) ys)
    where
      by_test : (b : Bool) → is_some (position_from p (k + 1) ys) ≡ list_any p ys → is_some (cond b (Some k) (position_from p (k + 1) ys)) ≡ (b || list_any p ys)
      by_test true e = refl
      by_test false e = e

  -- there is a position where some element passes
  pub some_position : (xs : List A) → is_some (position p xs) ≡ list_any p xs
  some_position xs = ap is_some (position_from-zero p xs) ∙ position_any 0 xs
