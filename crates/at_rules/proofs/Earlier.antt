-- The first element that passes one of several tests.
use Rattle.std.proofs.Common.{◌≡◌, ℕ, ◌+◌, ◌≤◌, min, List, [], ◌∷◌, ◌++◌, length, refl, ap, ap₂, sym, ◌∙◌, arith, Option, Some, None}
use Rattle.std.specs.Prelude.{Bool, true, false, ◌||◌, cond, position, is_some}
use Rattle.std.specs.List.{list_any, position_from}
use Rattle.std.specs.Option.{option_or}
use Rattle.std.proofs.lemmas.Iterator.Adapters.{position_from-zero}
use Rattle.at_rules.specs.Upward.{earlier}

before_others : {A : Type 0} (p : A → Bool) (i m : ℕ) (xs : List A) → i ≤ m → earlier (Some i) (position_from p m xs) ≡ Some i
before_others p i m [] le = refl
before_others p i m (x ∷ xs) le = by (p x) (before_others p i (m + 1) xs (omega (arith, le)))
  where
    by : (b : Bool) → earlier (Some i) (position_from p (m + 1) xs) ≡ Some i → earlier (Some i) (cond b (Some m) (position_from p (m + 1) xs)) ≡ Some i
    by true rest = let same : min i m ≡ i = omega (arith, le) in ap Some same
    by false rest = rest

others_behind : {A : Type 0} (p : A → Bool) (i m : ℕ) (xs : List A) → i ≤ m → earlier (position_from p m xs) (Some i) ≡ Some i
others_behind p i m [] le = refl
others_behind p i m (x ∷ xs) le = by (p x) (others_behind p i (m + 1) xs (omega (arith, le)))
  where
    by : (b : Bool) → earlier (position_from p (m + 1) xs) (Some i) ≡ Some i → earlier (cond b (Some m) (position_from p (m + 1) xs)) (Some i) ≡ Some i
    by true rest = let same : min m i ≡ i = omega (arith, le) in ap Some same
    by false rest = rest

either_from : {A : Type 0} (p q : A → Bool) (i : ℕ) (xs : List A) → earlier (position_from p i xs) (position_from q i xs) ≡ position_from (λ x. p x || q x) i xs
either_from p q i [] = refl
either_from p q i (x ∷ xs) = by (p x) (q x) (either_from p q (i + 1) xs)
  where
    by : (a b : Bool) → earlier (position_from p (i + 1) xs) (position_from q (i + 1) xs) ≡ position_from (λ x. p x || q x) (i + 1) xs
        → earlier (cond a (Some i) (position_from p (i + 1) xs)) (cond b (Some i) (position_from q (i + 1) xs)) ≡ cond (a || b) (Some i) (position_from (λ x. p x || q x) (i + 1) xs)
    by true true rest = let same : min i i ≡ i = omega arith in ap Some same
    by true false rest = before_others q i (i + 1) xs (omega arith)
    by false true rest = others_behind p i (i + 1) xs (omega arith)
    by false false rest = rest

pub either : {A : Type 0} (p q : A → Bool) (xs : List A) → earlier (position p xs) (position q xs) ≡ position (λ x. p x || q x) xs
either p q xs = ap₂ earlier (position_from-zero p xs) (position_from-zero q xs) ∙ either_from p q 0 xs ∙ sym (position_from-zero (λ x. p x || q x) xs)

pub earlier_assoc : (o p q : Option ℕ) → earlier (earlier o p) q ≡ earlier o (earlier p q)
earlier_assoc None p q = refl
earlier_assoc (Some i) None q = refl
earlier_assoc (Some i) (Some j) None = refl
earlier_assoc (Some i) (Some j) (Some k) = let same : min (min i j) k ≡ min i (min j k) = omega arith in ap Some same

pub earlier_none : (o : Option ℕ) → earlier o None ≡ o
earlier_none None = refl
earlier_none (Some i) = refl

-- one more element
push_from : {A : Type 0} (p : A → Bool) (i : ℕ) (xs : List A) (x : A) → position_from p i (xs ++ x ∷ []) ≡ option_or (position_from p i xs) (cond (p x) (Some (i + length xs)) None)
push_from p i [] x = let n : i ≡ i + 0 = omega arith in ap (λ m. cond (p x) (Some m) None) n
push_from p i (y ∷ ys) x = by (p y) (push_from p (i + 1) ys x)
  where
    by : (b : Bool) → position_from p (i + 1) (ys ++ x ∷ []) ≡ option_or (position_from p (i + 1) ys) (cond (p x) (Some ((i + 1) + length ys)) None)
        → cond b (Some i) (position_from p (i + 1) (ys ++ x ∷ [])) ≡ option_or (cond b (Some i) (position_from p (i + 1) ys)) (cond (p x) (Some (i + length (y ∷ ys))) None)
    by true rest = refl
    by false rest =
        let n : (i + 1) + length ys ≡ i + length (y ∷ ys) = omega arith in
        rest ∙ ap (λ m. option_or (position_from p (i + 1) ys) (cond (p x) (Some m) None)) n

pub position_push : {A : Type 0} (p : A → Bool) (xs : List A) (x : A) → position p (xs ++ x ∷ []) ≡ option_or (position p xs) (cond (p x) (Some (length xs)) None)
position_push p xs x =
    let n : 0 + length xs ≡ length xs = omega arith in
    position_from-zero p (xs ++ x ∷ []) ∙ push_from p 0 xs x ∙ ap₂ (λ o m. option_or o (cond (p x) (Some m) None)) (sym (position_from-zero p xs)) n

any_from : {A : Type 0} (p : A → Bool) (i : ℕ) (xs : List A) → is_some (position_from p i xs) ≡ list_any p xs
any_from p i [] = refl
any_from p i (x ∷ xs) = by (p x) (any_from p (i + 1) xs)
  where
    by : (b : Bool) → is_some (position_from p (i + 1) xs) ≡ list_any p xs → is_some (cond b (Some i) (position_from p (i + 1) xs)) ≡ (b || list_any p xs)
    by true rest = refl
    by false rest = rest

-- there is one
pub any_found : {A : Type 0} (p : A → Bool) (xs : List A) → is_some (position p xs) ≡ list_any p xs
any_found p xs = ap is_some (position_from-zero p xs) ∙ any_from p 0 xs
