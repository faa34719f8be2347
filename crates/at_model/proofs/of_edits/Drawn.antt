-- Elements that are chosen by a test, over changes of the list in which they stand.
use Rattle.std.proofs.Common.{◌≡◌, ℕ, zero, suc, ◌+◌, ◌<◌, ◌≤◌, Bool, true, false, cond, List, [], ◌∷◌, ◌++◌, length, Option, Some, None, refl, sym, ◌∙◌, subst, arith, option_map, ◌⊎◌, inl, inr}
use Rattle.std.specs.List.{slice_get, insert, remove}
use Rattle.at_model.specs.Trees.{Tree}
use Rattle.at_model.specs.Paths.{Node}
use Rattle.at_model.specs.Meaning.{chosen_nodes}
use Rattle.at_model.specs.Alike.{ListLike}
use Rattle.at_model.specs.Alike as alike

-- The elements of a list from this place on, and those behind a change of it: each that stays goes where its place goes, and passes the
-- test as before; what comes or goes doesn't pass it.
pub data Kept (f : Tree → Bool) (goes : ℕ → ℕ → Type 0) : ℕ → List Tree → ℕ → List Tree → Type 0 where
  none : (i j : ℕ) → Kept f goes i [] j []
  stays : (i j : ℕ) (x y : Tree) (xs ys : List Tree) → goes i j → f y ≡ f x → Kept f goes (suc i) xs (suc j) ys → Kept f goes i (x ∷ xs) j (y ∷ ys)
  out : (i j : ℕ) (x : Tree) (xs ys : List Tree) → f x ≡ false → Kept f goes (suc i) xs j ys → Kept f goes i (x ∷ xs) j ys
  comes : (i j : ℕ) (y : Tree) (xs ys : List Tree) → f y ≡ false → Kept f goes i xs (suc j) ys → Kept f goes i xs j (y ∷ ys)

both_chosen : (R : Node → Node → Type 0) (a b : Bool) (x y : Node) (xs ys : List Node) → b ≡ a → R x y → ListLike R xs ys → ListLike R (cond a (x ∷ xs) xs) (cond b (y ∷ ys) ys)
both_chosen R true true x y xs ys e r rs = alike.more r rs
both_chosen R false false x y xs ys e r rs = rs
both_chosen R true false x y xs ys e r rs = absurd cc
both_chosen R false true x y xs ys e r rs = absurd cc

pub passed_by : {A : Type 0} (b : Bool) (xs ys : A) → b ≡ false → cond b xs ys ≡ ys
passed_by true xs ys e = absurd cc
passed_by false xs ys e = refl

-- those that are chosen are alike
pub chosen_alike : (f : Tree → Bool) (goes : ℕ → ℕ → Type 0) (R : Node → Node → Type 0) (n m : Node) (q : ℕ)
    → ((i j : ℕ) → goes i j → R (n ++ (q, i) ∷ []) (m ++ (q, j) ∷ []))
    → (i : ℕ) (xs : List Tree) (j : ℕ) (ys : List Tree) → Kept f goes i xs j ys → ListLike R (chosen_nodes f n q i xs) (chosen_nodes f m q j ys)
chosen_alike f goes R n m q h _ _ _ _ (none i j) = alike.end
chosen_alike f goes R n m q h _ _ _ _ (stays i j x y xs ys g e rest) =
    both_chosen R (f x) (f y) (n ++ (q, i) ∷ []) (m ++ (q, j) ∷ []) (chosen_nodes f n q (suc i) xs) (chosen_nodes f m q (suc j) ys) e (h i j g)
    (chosen_alike f goes R n m q h (suc i) xs (suc j) ys rest)
chosen_alike f goes R n m q h _ _ _ _ (out i j x xs ys e rest) =
    subst (λ (z : List Node). ListLike R z (chosen_nodes f m q j ys)) (sym (passed_by (f x) _ (chosen_nodes f n q (suc i) xs) e))
    (chosen_alike f goes R n m q h (suc i) xs j ys rest)
chosen_alike f goes R n m q h _ _ _ _ (comes i j y xs ys e rest) =
    subst (λ (z : List Node). ListLike R (chosen_nodes f n q i xs) z) (sym (passed_by (f y) _ (chosen_nodes f m q (suc j) ys) e))
    (chosen_alike f goes R n m q h i xs (suc j) ys rest)

differs : (o : Option Bool) (b : Bool) → o ≡ None → o ≡ Some b → ⊥
differs None b e f = cc
differs (Some c) b e f = cc

same_truth : (a b : Bool) → Some a ≡ Some b → a ≡ b
same_truth a b e = cc

-- where each place passes the test as before, and goes to itself or doesn't pass it
pub each_there : (f : Tree → Bool) (goes : ℕ → ℕ → Type 0) (i : ℕ) (xs ys : List Tree) → ((k : ℕ) → option_map f (slice_get ys k) ≡ option_map f (slice_get xs k))
    → ((k : ℕ) (x : Tree) → slice_get xs k ≡ Some x → goes (i + k) (i + k) ⊎ (f x ≡ false)) → Kept f goes i xs i ys
each_there f goes i [] [] same alone = none i i
each_there f goes i [] (y ∷ ys) same alone = absurd (differs (option_map f (slice_get (y ∷ ys) 0)) (f y) (same 0) refl)
each_there f goes i (x ∷ xs) [] same alone = absurd (differs (option_map f (slice_get (x ∷ xs) 0)) (f x) (sym (same 0)) refl)
each_there f goes i (x ∷ xs) (y ∷ ys) same alone = by_place (alone 0 x refl)
    (each_there f goes (suc i) xs ys (λ k. same (suc k)) (λ k z e. let g : i + suc k ≡ suc i + k = omega arith in
    subst (λ (p : ℕ). goes p p ⊎ (f z ≡ false)) g (alone (suc k) z e)))
  where
    is : f y ≡ f x
    is = same_truth (f y) (f x) (same 0)

    by_place : goes (i + 0) (i + 0) ⊎ (f x ≡ false) → Kept f goes (suc i) xs (suc i) ys → Kept f goes i (x ∷ xs) i (y ∷ ys)
    by_place (inl g) rest = let e : i + 0 ≡ i = omega arith in stays i i x y xs ys (subst (λ (p : ℕ). goes p p) e g) is rest
    by_place (inr off) rest = out i i x xs (y ∷ ys) off (comes (suc i) i y xs ys (is ∙ off) rest)

-- all that stands behind goes one to the front, or one to the back
forward : (f : Tree → Bool) (goes : ℕ → ℕ → Type 0) (i : ℕ) (xs : List Tree) → ((k : ℕ) → i ≤ k → goes (suc k) k) → Kept f goes (suc i) xs i xs
forward f goes i [] h = none (suc i) i
forward f goes i (x ∷ xs) h = stays (suc i) i x x xs xs (h i (omega arith)) refl (forward f goes (suc i) xs (λ k less. h k (omega arith)))

backward : (f : Tree → Bool) (goes : ℕ → ℕ → Type 0) (i : ℕ) (xs : List Tree) → ((k : ℕ) → i ≤ k → goes k (suc k)) → Kept f goes i xs (suc i) xs
backward f goes i [] h = none i (suc i)
backward f goes i (x ∷ xs) h = stays i (suc i) x x xs xs (h i (omega arith)) refl (backward f goes (suc i) xs (λ k less. h k (omega arith)))

-- one is taken out
pub removed : (f : Tree → Bool) (goes : ℕ → ℕ → Type 0) (i k : ℕ) (xs : List Tree) → ((j : ℕ) → j < i + k → goes j j) → ((j : ℕ) → i + k ≤ j → goes (suc j) j)
    → ((x : Tree) → slice_get xs k ≡ Some x → f x ≡ false) → Kept f goes i xs i (remove xs k)
removed f goes i zero [] before behind off = none i i
removed f goes i (suc k) [] before behind off = none i i
removed f goes i zero (x ∷ xs) before behind off = out i i x xs xs (off x refl) (forward f goes i xs (λ j less. behind j (omega arith)))
removed f goes i (suc k) (x ∷ xs) before behind off =
    stays i i x x xs (remove xs k) (before i (omega arith)) refl (removed f goes (suc i) k xs (λ j less. before j (omega arith)) (λ j less. behind j (omega arith)) off)

-- one is put in
pub inserted : (f : Tree → Bool) (goes : ℕ → ℕ → Type 0) (a : Tree) (i k : ℕ) (xs : List Tree) → ((j : ℕ) → j < i + k → goes j j)
    → ((j : ℕ) → i + k ≤ j → goes j (suc j)) → f a ≡ false → k ≤ length xs → Kept f goes i xs i (insert xs k a)
inserted f goes a i zero [] before behind off bound = comes i i a [] [] off (none i (suc i))
inserted f goes a i zero (x ∷ xs) before behind off bound = comes i i a (x ∷ xs) (x ∷ xs) off (backward f goes i (x ∷ xs) (λ j less. behind j (omega arith)))
inserted f goes a i (suc k) [] before behind off bound = let e : suc k ≤ 0 = bound in absurd (omega arith)
inserted f goes a i (suc k) (x ∷ xs) before behind off bound =
    let e : suc k ≤ suc (length xs) = bound in
    stays i i x x xs (insert xs k a) (before i (omega arith)) refl
    (inserted f goes a (suc i) k xs (λ j less. before j (omega arith)) (λ j less. behind j (omega arith)) off (omega arith))
