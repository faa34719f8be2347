-- Lists by places, by what they contain, and by tests.
use Rattle.at_index.proofs.Common.{◌≡◌, ℕ, zero, suc, ◌⊎◌, inl, inr, List, [], ◌∷◌, ◌++◌, length, slice_get, Some, Contains, refl, ap, Bool, true, false, ◌||◌, get_or, nat_lt, ◌<◌, None, sym, ◌∙◌, arith, list_any, ltb-false, ltb-true, or_cases, or_left, or_right, none-some, same_Some, slice_get_within, get_or_from_slice_get, slice_get_past, Contains-cons, Contains-cons_cases}

module _ {A : Type 0} where
  pub get_left : (xs ys : List A) (k : ℕ) (x : A) → slice_get xs k ≡ Some x → slice_get (xs ++ ys) k ≡ Some x
  get_left [] ys k x e = absurd (none-some x e)
  get_left (y ∷ xs) ys zero x e = e
  get_left (y ∷ xs) ys (suc k) x e = get_left xs ys k x e

  pub get_seam : (xs : List A) (x : A) → slice_get (xs ++ x ∷ []) (length xs) ≡ Some x
  get_seam [] x = refl
  get_seam (y ∷ xs) x = get_seam xs x

  pub get_push : (xs : List A) (y : A) (k : ℕ) (x : A) → slice_get (xs ++ y ∷ []) k ≡ Some x → (slice_get xs k ≡ Some x) ⊎ ((k ≡ length xs) × (y ≡ x))
  get_push [] y zero x e = inr (refl, same_Some y x e)
  get_push [] y (suc k) x e = absurd (none-some x e)
  get_push (z ∷ xs) y zero x e = inl e
  get_push (z ∷ xs) y (suc k) x e = by (get_push xs y k x e)
    where
      by : (slice_get xs k ≡ Some x) ⊎ ((k ≡ length xs) × (y ≡ x)) → (slice_get xs k ≡ Some x) ⊎ ((suc k ≡ suc (length xs)) × (y ≡ x))
      by (inl h) = inl h
      by (inr h) = inr (ap suc h.0, h.1)

  pub get_contains : (xs : List A) (k : ℕ) (x : A) → slice_get xs k ≡ Some x → Contains xs x
  get_contains xs k x e = (k, slice_get_within xs k x e, get_or_from_slice_get xs k x x e)

-- what a list has at a number
module _ {X : Type 0} where
  pub got : (xs : List X) (k : ℕ) (d : X) → k < length xs → slice_get xs k ≡ Some (get_or xs k d)
  got [] k d h = absurd (omega arith)
  got (x ∷ xs) zero d h = refl
  got (x ∷ xs) (suc k) d h = got xs k d (omega arith)

pub node_there : {X : Type 0} (xs : List X) (i node : ℕ) (x : X) → i ≡ node → true ≡ nat_lt i (length xs) → x ≡ get_or xs i x → slice_get xs node ≡ Some x
node_there xs i node x is less here = ap (slice_get xs) (sym is) ∙ got xs i x (ltb-true i (length xs) (sym less)) ∙ ap Some (sym here)

pub node_past : {X : Type 0} (xs : List X) (i node : ℕ) → i ≡ node → false ≡ nat_lt i (length xs) → slice_get xs node ≡ None
node_past xs i node is past = ap (slice_get xs) (sym is) ∙ slice_get_past xs i (ltb-false i (length xs) (sym past))

pub head_of : {X : Type 0} (x : X) (xs : List X) → Contains (x ∷ xs) x
head_of x xs = (0, omega arith, refl)

pub none_in : {X : Type 0} (x : X) → Contains [] x → ⊥
none_in x c = let within = c.1 in omega arith

pub agree : (a b : Bool) → (a ≡ true → b ≡ true) → (b ≡ true → a ≡ true) → a ≡ b
agree true b f g = sym (f refl)
agree false true f g = g refl
agree false false f g = refl

module _ {X : Type 0} where
  pub some_of : (p : X → Bool) (xs : List X) → list_any p xs ≡ true → (x : X) × Contains xs x × (p x ≡ true)
  some_of p [] h = absurd (cc)
  some_of p (x ∷ xs) h = elim (or_cases (p x) (list_any p xs) h) [
    | inl here ↦ (x, head_of x xs, here)
    | inr there ↦ let (y, c, is) = some_of p xs there in (y, Contains-cons x y xs c, is)
  ]

  pub any_of : (p : X → Bool) (xs : List X) (x : X) → Contains xs x → p x ≡ true → list_any p xs ≡ true
  any_of p [] x c is = absurd (none_in x c)
  any_of p (y ∷ ys) x c is = elim (Contains-cons_cases y x ys c) [
    | inl same ↦ or_left (p y) (list_any p ys) (ap p same ∙ is)
    | inr rest ↦ or_right (p y) (list_any p ys) (any_of p ys x rest is)
  ]

  pub any_same : (p q : X → Bool) (xs : List X) → ((x : X) → Contains xs x → p x ≡ q x) → list_any p xs ≡ list_any q xs
  any_same p q [] h = refl
  any_same p q (x ∷ xs) h = ap (λ b. b || list_any p xs) (h x (head_of x xs)) ∙ ap (λ b. q x || b) (any_same p q xs (λ y c. h y (Contains-cons x y xs c)))
