-- What holds of each element of a list.
use Rattle.std.proofs.Common.{◌≡◌, ℕ, zero, suc, List, [], ◌∷◌, ◌++◌, map, Some, subst}
use Rattle.std.specs.List.{slice_get, AllByRecursion}

-- of an element
pub found : {A : Type 0} (P : A → Type 0) (xs : List A) (i : ℕ) (x : A) → AllByRecursion P xs → slice_get xs i ≡ Some x → P x
found P [] i x h e = absurd cc
found P (y ∷ xs) zero x (h, hs) e = let f : y ≡ x = cc in subst P f h
found P (y ∷ xs) (suc i) x (h, hs) e = found P xs i x hs e

-- of the parts of a list
pub both_all : {A : Type 0} (P : A → Type 0) (xs ys : List A) → AllByRecursion P (xs ++ ys) → AllByRecursion P xs × AllByRecursion P ys
both_all P [] ys h = (tt, h)
both_all P (x ∷ xs) ys (h, hs) = let (f, g) = both_all P xs ys hs in ((h, f), g)

-- of two lists together
pub all_both : {A : Type 0} (P : A → Type 0) (xs ys : List A) → AllByRecursion P xs → AllByRecursion P ys → AllByRecursion P (xs ++ ys)
all_both P [] ys h g = g
all_both P (x ∷ xs) ys (h, hs) g = (h, all_both P xs ys hs g)

-- of images
pub all_map : {A B : Type 0} (P : B → Type 0) (f : A → B) (xs : List A) → AllByRecursion (λ a. P (f a)) xs → AllByRecursion P (map f xs)
all_map P f [] h = tt
all_map P f (x ∷ xs) (h, hs) = (h, all_map P f xs hs)

-- what follows from it
pub all_more : {A : Type 0} (P Q : A → Type 0) (xs : List A) → ((a : A) → P a → Q a) → AllByRecursion P xs → AllByRecursion Q xs
all_more P Q [] f h = tt
all_more P Q (x ∷ xs) f (h, hs) = (f x h, all_more P Q xs f hs)

-- two facts
pub all_two : {A : Type 0} (P Q : A → Type 0) (xs : List A) → AllByRecursion P xs → AllByRecursion Q xs → AllByRecursion (λ a. P a × Q a) xs
all_two P Q [] h g = tt
all_two P Q (x ∷ xs) (h, hs) (g, gs) = ((h, g), all_two P Q xs hs gs)

-- what holds of all there are
pub all_any : {A : Type 0} (P : A → Type 0) (xs : List A) → ((a : A) → P a) → AllByRecursion P xs
all_any P [] h = tt
all_any P (x ∷ xs) h = (h x, all_any P xs h)
