-- The first element that passes one of several tests.
use Rattle.std.proofs.Common.{◌≡◌, ℕ, ◌+◌, List, [], ◌∷◌, filter, map, refl, ap, sym, ◌∙◌, arith, Some}
use Rattle.std.specs.Prelude.{Bool, true, false, ◌&&◌, ◌||◌, cond, position, is_some, All}
use Rattle.std.specs.List.{list_any, position_from}
use Rattle.std.proofs.lemmas.Iterator.Adapters.{position_from-zero}
use Rattle.std.proofs.lemmas.List.Elements.{All-tail}

-- among those that pass another test ----------------------------------------------------------------------------------

-- the first one for which a test holds, through a view in which another test holds of the same
same_from : {A B : Type 0} (P : A → Type 0) (v : A → B) (a : B → Bool) (p : A → Bool) (q : B → Bool) (i : ℕ) (xs : List A) → All P xs → ((x : A) → P x → p x ≡ q (v x))
    → position_from p i (filter (λ x. a (v x)) xs) ≡ position_from q i (filter a (map v xs))
same_from P v a p q i [] all same = refl
same_from P v a p q i (x ∷ xs) all same = by (a (v x)) (λ j. same_from P v a p q j xs (All-tail P x xs all) same)
  where
    here : p x ≡ q (v x)
    here = same x (all 0 x (omega arith))

    by : (b : Bool) → ((j : ℕ) → position_from p j (filter (λ x. a (v x)) xs) ≡ position_from q j (filter a (map v xs)))
        → position_from p i (cond b (x ∷ filter (λ x. a (v x)) xs) (filter (λ x. a (v x)) xs)) ≡ position_from q i (cond b (v x ∷ filter a (map v xs)) (filter a (map v xs)))
    by true rest = ap (λ c. cond c (Some i) (position_from p (i + 1) (filter (λ x. a (v x)) xs))) here ∙ ap (cond (q (v x)) (Some i)) (rest (i + 1))
    by false rest = rest i

pub same_first : {A B : Type 0} (P : A → Type 0) (v : A → B) (a : B → Bool) (p : A → Bool) (q : B → Bool) (xs : List A) → All P xs → ((x : A) → P x → p x ≡ q (v x))
    → position p (filter (λ x. a (v x)) xs) ≡ position q (filter a (map v xs))
same_first P v a p q xs all same = position_from-zero p (filter (λ x. a (v x)) xs) ∙ same_from P v a p q 0 xs all same ∙ sym (position_from-zero q (filter a (map v xs)))

found_from : {A : Type 0} (p a : A → Bool) (i : ℕ) (xs : List A) → is_some (position_from p i (filter a xs)) ≡ list_any (λ x. a x && p x) xs
found_from p a i [] = refl
found_from p a i (x ∷ xs) = by (a x) (λ j. found_from p a j xs)
  where
    here : (b : Bool) → is_some (position_from p (i + 1) (filter a xs)) ≡ list_any (λ x. a x && p x) xs
        → is_some (cond b (Some i) (position_from p (i + 1) (filter a xs))) ≡ (b || list_any (λ x. a x && p x) xs)
    here true rest = refl
    here false rest = rest

    by : (b : Bool) → ((j : ℕ) → is_some (position_from p j (filter a xs)) ≡ list_any (λ x. a x && p x) xs) → is_some
        (position_from p i (cond b (x ∷ filter a xs) (filter a xs))) ≡ ((b && p x) || list_any (λ x. a x && p x) xs)
    by true rest = here (p x) (rest (i + 1))
    by false rest = rest i

-- there is one
pub is_found : {A : Type 0} (p a : A → Bool) (xs : List A) → is_some (position p (filter a xs)) ≡ list_any (λ x. a x && p x) xs
is_found p a xs = ap is_some (position_from-zero p (filter a xs)) ∙ found_from p a 0 xs
