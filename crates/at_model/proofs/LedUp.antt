-- Where no class is above itself, the chain of a class is the class and the whole chain of its superclass.
use Rattle.std.proofs.Common.{◌≡◌, ℕ, zero, suc, ◌<◌, ◌≤◌, Bool, true, false, List, [], ◌∷◌, ◌++◌, length, drop, Option, Some, None, refl, sym, ap, ◌∙◌, subst, arith, true≢false, eq-eqb}
use Rattle.std.specs.Prelude.{◌||◌, IfSome, nat_eq, nat_lt, option_and_then, unwrap_or}
use Rattle.std.specs.List.{list_any}
use Rattle.std.proofs.lemmas.Bool.{ltb-true, ltb-false, or_left, or_right}
use Rattle.std.proofs.lemmas.Option.{slice_get_past}
use Rattle.std.proofs.lemmas.List.Folds.{list_any-append}
use Rattle.at_model.specs.Classes.{Class, Classes, chain, chain_within, parent_of}
use Rattle.at_model.specs.Declarations.{above}
use Rattle.at_model.specs.WellFormed.{IsHierarchy}
use Rattle.at_model.proofs.Chained.{chained}

-- the first of a way up
abbrev end_of : List ℕ → Option ℕ
end_of [] = None
end_of (c ∷ cs) = Some c

chain_within-none : (classes : Classes) (m : ℕ) → chain_within m classes None ≡ []
chain_within-none classes zero = refl
chain_within-none classes (suc m) = refl

-- what is in a shorter chain is in the longer one
in_longer : (classes : Classes) (m n c : ℕ) (o : Option ℕ) → m ≤ n → list_any (nat_eq c) (chain_within m classes o) ≡ true → list_any (nat_eq c) (chain_within n classes o) ≡ true
in_longer classes zero n c o l e = absurd (true≢false (sym e))
in_longer classes (suc m) zero c o l e = absurd (omega (arith, l))
in_longer classes (suc m) (suc n) c None l e = absurd (true≢false (sym e))
in_longer classes (suc m) (suc n) c (Some b) l e = by (nat_eq c b) refl (in_longer classes m n c (parent_of classes b) (omega (arith, l))) e
  where
    by : (s : Bool) → nat_eq c b ≡ s → (list_any (nat_eq c) (chain_within m classes (parent_of classes b)) ≡ true → list_any (nat_eq c) (chain_within n classes (parent_of classes b)) ≡ true)
        → (s || list_any (nat_eq c) (chain_within m classes (parent_of classes b))) ≡ true → (nat_eq c b || list_any (nat_eq c) (chain_within n classes (parent_of classes b))) ≡ true
    by true f more g = or_left (nat_eq c b) _ f
    by false f more g = or_right (nat_eq c b) _ (more g)

-- a class that has a superclass is there
pub has_parent : (classes : Classes) (c p : ℕ) → parent_of classes c ≡ Some p → c < length classes
has_parent classes c p e = by (nat_lt c (length classes)) refl
  where
    past : (o : Option ℕ) → o ≡ None → o ≡ Some p → ⊥
    past o f g = none (sym f ∙ g)
      where
        none : None ≡ Some p → ⊥
        none h = cc

    by : (s : Bool) → nat_lt c (length classes) ≡ s → c < length classes
    by true f = ltb-true c (length classes) f
    by false f = absurd (past (parent_of classes c) (ap (option_and_then (λ (k : Class). k.parent)) (slice_get_past classes c (ltb-false c (length classes) f))) e)

pub first_in : (p : ℕ) (ps : List ℕ) → list_any (nat_eq p) (p ∷ ps) ≡ true
first_in p ps = or_left (nat_eq p p) _ (eq-eqb p p refl)

-- the superclass isn't above itself, and is there
not_above : (classes : Classes) → IsHierarchy classes → (c p : ℕ) → parent_of classes c ≡ Some p → (k : ℕ)
    → k ≤ length classes → list_any (nat_eq p) (chain_within k classes (parent_of classes p)) ≡ true → ⊥
not_above classes h c p e k l f = true≢false (sym (in_longer classes k (length classes) p (parent_of classes p) l f) ∙ h.no_circle p (subst (λ o. IfSome o (λ b. b < length classes)) e (h.parents c)))

-- of a chain that goes on with a whole one, one step shorter
shorter : (classes : Classes) → IsHierarchy classes → (c p m : ℕ) → parent_of classes c ≡ Some p → length classes
    ≡ suc m → (front : List ℕ) → chain_within (suc m) classes (Some c) ≡ front ++ chain_within (suc m) classes (Some p)
    → chain_within m classes (Some p) ≡ chain_within (suc m) classes (Some p)
shorter classes h c p m e n [] f =
    let same : c ≡ p = ap (λ xs. unwrap_or (end_of xs) c) f in
    absurd (not_above classes h c p e (suc m) (omega (arith, n))
    (ap (λ o. list_any (nat_eq p) (chain_within (suc m) classes o)) (ap (parent_of classes) (sym same) ∙ e)
    ∙ first_in p (chain_within m classes (parent_of classes p))))
shorter classes h c p m e n (x ∷ []) f = ap (λ o. chain_within m classes o) (sym e) ∙ ap (drop 1) f
shorter classes h c p zero e n (x ∷ y ∷ ys) f = absurd (none (ap (drop 1) f))
  where
    none : [] ≡ y ∷ ys ++ chain_within 1 classes (Some p) → ⊥
    none g = cc
shorter classes h c p (suc k) e n (x ∷ y ∷ ys) f =
    let rest : chain_within k classes (parent_of classes p) ≡ ys ++ chain_within (suc (suc k)) classes (Some p) = ap (drop 1) (ap (λ o. chain_within (suc k) classes o) (sym e) ∙ ap (drop 1) f) in
    absurd (not_above classes h c p e k (omega (arith, n))
    (ap (list_any (nat_eq p)) rest ∙ list_any-append (nat_eq p) ys (chain_within (suc (suc k)) classes (Some p))
    ∙ or_right (list_any (nat_eq p) ys) _ (first_in p (chain_within (suc k) classes (parent_of classes p)))))

-- the superclass is on the chain, if there is more than one class
on_chain : (classes : Classes) → IsHierarchy classes → (c p m : ℕ) → parent_of classes c ≡ Some p → length classes ≡ suc m → list_any (nat_eq p) (chain_within (suc m) classes (Some c)) ≡ true
on_chain classes h c p zero e n =
    let l : p < length classes = subst (λ o. IfSome o (λ b. b < length classes)) e (h.parents c) in
    let m : c < length classes = has_parent classes c p e in
    let same : p ≡ c = omega (arith, n, l, m) in
    or_left (nat_eq p c) _ (eq-eqb p c same)
on_chain classes h c p (suc k) e n = or_right (nat_eq p c) _ (ap (λ o. list_any (nat_eq p) (chain_within (suc k) classes o)) e ∙ first_in p (chain_within k classes (parent_of classes p)))

by_parent : (classes : Classes) → IsHierarchy classes → (c m : ℕ) (o : Option ℕ) → length classes ≡ suc m → parent_of classes c ≡ o → chain_within m classes o ≡ chain_within (suc m) classes o
unfolding chain
by_parent classes h c m None n e = chain_within-none classes m ∙ sym (chain_within-none classes (suc m))
by_parent classes h c m (Some p) n e =
    let r = chained classes h c p (ap (λ k. list_any (nat_eq p) (chain_within k classes (Some c))) n ∙ on_chain classes h c p m e n) in
    shorter classes h c p m e n r.0 (ap (λ k. chain_within k classes (Some c)) (sym n) ∙ r.1 ∙ ap (λ k. r.0 ++ chain_within k classes (Some p)) n)

by_count : (classes : Classes) → IsHierarchy classes → 0 < length classes → (c n : ℕ) → length classes ≡ n → chain_within (length classes) classes (Some c) ≡ c ∷ above classes c
by_count classes h some c zero n = absurd (omega (arith, some, n))
by_count classes h some c (suc m) n =
    ap (λ k. chain_within k classes (Some c)) n
    ∙ ap (λ xs. c ∷ xs) (by_parent classes h c m (parent_of classes c) n refl)
    ∙ ap (λ k. c ∷ chain_within k classes (parent_of classes c)) (sym n)

pub led : (classes : Classes) → IsHierarchy classes → 0 < length classes → (c : ℕ) → chain classes c ≡ c ∷ above classes c
unfolding chain
led classes h some c = by_count classes h some c (length classes) refl
