-- Where no class is above itself, the chain of a class ends with the chain of each class above it.
use Rattle.std.proofs.Common.{◌≡◌, ℕ, zero, suc, ◌+◌, ◌<◌, ◌≤◌, Bool, true, false, ◌||◌, nat_eq, nat_lt, List, [], ◌∷◌, ◌++◌, length, Option, Some, None, inl, inr, refl, sym, ap, ◌∙◌, subst, arith}
use Rattle.std.specs.Prelude.{IfSome, option_and_then}
use Rattle.std.specs.List.{list_any, IsDistinct, AllByRecursion}
use Rattle.std.proofs.lemmas.Bool.Decides.{nat_tests}
use Rattle.std.proofs.lemmas.Map.Steps.{length-le_from_distinct_below}
use Rattle.std.proofs.lemmas.Option.{slice_get_past}
use Rattle.at_model.specs.Classes.{Classes, Class, parent_of, chain_within, chain}
use Rattle.at_model.proofs.Below.{AreChained}
use Rattle.at_model.specs.WellFormed.{IsHierarchy}
use Rattle.at_model.proofs.Options.{either_true}

none_within : (classes : Classes) (m : ℕ) → chain_within m classes None ≡ []
none_within classes zero = refl
none_within classes (suc m) = refl

one_long : (c : ℕ) (xs : List ℕ) → length (c ∷ xs) ≤ 0 → ⊥
one_long c xs h = omega arith

less_long : (c m : ℕ) (xs : List ℕ) → length (c ∷ xs) ≤ suc m → length xs ≤ m
less_long c m xs h = omega arith

not_less : (m : ℕ) → suc m ≤ 0 → ⊥
not_less m h = omega arith

less_less : (m n : ℕ) → suc m ≤ suc n → m ≤ n
less_less m n h = omega arith

-- a chain that ended before so many steps goes on no further
ended : (classes : Classes) (m n : ℕ) (o : Option ℕ) → m ≤ n → length (chain_within (suc m) classes o) ≤ m → chain_within n classes o ≡ chain_within m classes o
ended classes zero n None l h = none_within classes n
ended classes zero n (Some c) l h = absurd (one_long c [] h)
ended classes (suc m) zero o l h = absurd (not_less m l)
ended classes (suc m) (suc n) None l h = refl
ended classes (suc m) (suc n) (Some c) l h = ap (λ xs. c ∷ xs) (ended classes m n (parent_of classes c) (less_less m n l) (less_long c m (chain_within (suc m) classes (parent_of classes c)) h))

or_left : (a b c : Bool) → (b ≡ true → c ≡ true) → (a || b) ≡ true → (a || c) ≡ true
or_left true b c f e = refl
or_left false b c f e = f e

-- what is in a shorter chain is in the longer one
in_longer : (classes : Classes) (m n c : ℕ) (o : Option ℕ) → m ≤ n → list_any (nat_eq c) (chain_within m classes o) ≡ true → list_any (nat_eq c) (chain_within n classes o) ≡ true
in_longer classes zero n c o l h = absurd (cc)
in_longer classes (suc m) zero c o l h = absurd (not_less m l)
in_longer classes (suc m) (suc n) c None l h = absurd (cc)
in_longer classes (suc m) (suc n) c (Some b) l h = or_left (nat_eq c b) _ _ (in_longer classes m n c (parent_of classes b) (less_less m n l)) h

all_apart : (c : ℕ) (xs : List ℕ) → (list_any (nat_eq c) xs ≡ true → ⊥) → AllByRecursion (λ y. nat_eq c y ≡ false) xs
all_apart c [] h = tt
all_apart c (x ∷ xs) h = by_test (nat_eq c x) refl h (all_apart c xs)
  where
    by_test : (b : Bool) → nat_eq c x ≡ b → ((b || list_any (nat_eq c) xs) ≡ true → ⊥)
        → ((list_any (nat_eq c) xs ≡ true → ⊥) → AllByRecursion (λ y. nat_eq c y ≡ false) xs)
        → AllByRecursion (λ y. nat_eq c y ≡ false) (x ∷ xs)
    by_test true e h rest = absurd (h refl)
    by_test false e h rest = (e, rest h)

true_or_false : (b : Bool) → b ≡ false → b ≡ true → ⊥
true_or_false b e f = let g : false ≡ true = sym e ∙ f in absurd (cc)

pub nat_same : (m n : ℕ) → nat_eq m n ≡ true → m ≡ n
nat_same m n e = grind (arith, nat_tests)

module _ (classes : Classes) (parents : (c : ℕ) → IfSome (parent_of classes c) (λ b. b < length classes))
    (free : (c : ℕ) → c < length classes
    → list_any (nat_eq c) (chain_within (length classes) classes (parent_of classes c)) ≡ false) where
  distinct : (m : ℕ) (o : Option ℕ) → m ≤ suc (length classes) → IfSome o (λ b. b < length classes) → IsDistinct nat_eq (chain_within m classes o)
  unfolding IsDistinct
  distinct zero o l h = tt
  distinct (suc m) None l h = tt
  distinct (suc m) (Some c) l h = (
    all_apart c _ (λ e. true_or_false _ (free c h) (in_longer classes m (length classes) c (parent_of classes c) (less_less m (length classes) l) e)),
    distinct m (parent_of classes c) (let x = less_less m (length classes) l in omega arith) (parents c),
  )

  all_below : (m q : ℕ) (o : Option ℕ) → IfSome o (λ b. b < length classes) → list_any (nat_eq q) (chain_within m classes o) ≡ true → q < length classes
  all_below zero q o h e = absurd (cc)
  all_below (suc m) q None h e = absurd (cc)
  all_below (suc m) q (Some c) h e = elim (either_true (nat_eq q c) _ e) [
    | inl f ↦ subst (λ z. z < length classes) (sym (nat_same q c f)) h
    | inr f ↦ all_below m q (parent_of classes c) (parents c) f
  ]

  full_below : (c : ℕ) → c < length classes → length (chain_within (suc (length classes)) classes (Some c)) ≤ length classes
  full_below c h = length-le_from_distinct_below (chain_within (suc (length classes)) classes (Some c)) (length classes)
      (distinct (suc (length classes)) (Some c) (omega arith) h)
      (λ q e. all_below (suc (length classes)) q (Some c) h e)

  full_past : (c : ℕ) → 0 < length classes → length classes ≤ c → length (chain_within (suc (length classes)) classes (Some c)) ≤ length classes
  full_past c some h =
      let e : parent_of classes c ≡ None = ap (option_and_then (λ (k : Class). k.parent)) (slice_get_past classes c h) in
      let f : chain_within (suc (length classes)) classes (Some c) ≡ c ∷ [] = ap (λ o. c ∷ chain_within (length classes) classes o) e ∙ ap (λ xs. c ∷ xs) (none_within classes (length classes)) in
      subst (λ xs. length xs ≤ length classes) (sym f) (one c)
    where
      one : (c : ℕ) → length (c ∷ []) ≤ length classes
      one c = omega arith

  full : (c : ℕ) → 0 < length classes → length (chain_within (suc (length classes)) classes (Some c)) ≤ length classes
  full c some = by_test (nat_lt c (length classes)) refl
    where
      by_test : (b : Bool) → nat_lt c (length classes) ≡ b → length (chain_within (suc (length classes)) classes (Some c)) ≤ length classes
      by_test true e = full_below c (grind (arith, nat_tests))
      by_test false e = full_past c some (grind (arith, nat_tests))

  -- a longer chain runs over the class to a longer one from there
  split : (m b : ℕ) (o : Option ℕ) → list_any (nat_eq b) (chain_within m classes o) ≡ true → (front : List ℕ) × (j : ℕ)
      × ((d : ℕ) → chain_within (d + m) classes o ≡ front ++ chain_within (d + j) classes (Some b))
  split zero b o e = absurd (cc)
  split (suc m) b None e = absurd (cc)
  split (suc m) b (Some c) e = elim (either_true (nat_eq b c) _ e) [
    | inl f ↦ ([], suc m, λ d. ap (λ z. chain_within (d + suc m) classes (Some z)) (sym (nat_same b c f)))
    | inr f ↦ let (front, j, g) = split m b (parent_of classes c) f in (
      c ∷ front,
      j,
      λ d.
          let k : d + suc m ≡ suc (d + m) = omega arith in
          ap (λ z. chain_within z classes (Some c)) k ∙ ap (λ xs. c ∷ xs) (g d),
    )
  ]

  some_of : (c b : ℕ) (n : ℕ) → list_any (nat_eq b) (chain_within n classes (Some c)) ≡ true → 0 < n
  some_of c b zero e = absurd (cc)
  some_of c b (suc n) e = omega arith

  pub lined : AreChained classes
  unfolding chain
  lined c b e =
      let n = length classes in
      let some = some_of c b n e in
      let (front, j, g) = split n b (Some c) e in
      let x : chain_within (n + n) classes (Some c) ≡ chain_within n classes (Some c) = ended classes n (n + n) (Some c) (omega arith) (full c some) in
      let y : chain_within (n + j) classes (Some b) ≡ chain_within n classes (Some b) = ended classes n (n + j) (Some b) (omega arith) (full b some) in
      (front, sym x ∙ g n ∙ ap (λ xs. front ++ xs) y)

pub chained : (classes : Classes) → IsHierarchy classes → AreChained classes
chained classes h = lined classes h.parents h.no_circle
