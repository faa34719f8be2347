-- The attributes before a declaration, and how many may still be declared.
use Rattle.std.proofs.Common.{◌≡◌, ℕ, ◌+◌, ◌<◌, List, [], ◌∷◌, ◌++◌, length, take, get_or, map, refl, ap, sym, ◌∙◌, arith, Some, None, zero, suc}
use Rattle.std.proofs.lemmas.List.{take-map, map_more}
use Rattle.std.proofs.Math.Dec.{eqb-suc-zero}
use Rattle.std.proofs.lemmas.Bool.{ltb-true, ltb-false}
use Rattle.std.specs.Prelude.{Bool, true, false, not, nat_eq, nat_lt, filter, cond}
use Rattle.at_kinds.specs.declared.code.RuleCode.TheVariants as code
use Rattle.at_typing.specs.Declaring.{attributes, is_attribute, fault_at}
use Rattle.at_typing.specs.Located.{Located}
use Rattle.at_typing.specs.Numbering.{limit_of}

-- none may be declared any more
pub is_full : (left n m : ℕ) → left + n ≡ m → not (nat_lt n m) ≡ nat_eq left 0
is_full zero n m sum = by (nat_lt n m) refl
  where
    by : (b : Bool) → nat_lt n m ≡ b → not b ≡ true
    by false is = refl
    by true is = absurd (omega (arith, ltb-true n m is, sum))
is_full (suc left) n m sum = by (nat_lt n m) refl ∙ sym (eqb-suc-zero left)
  where
    by : (b : Bool) → nat_lt n m ≡ b → not b ≡ false
    by true is = refl
    by false is = absurd (omega (arith, ltb-false n m is, sum))

-- where one is declared that has no fault, one may be
pub room : (left : ℕ) (d : Located) → is_attribute d.decl.form ≡ true → limit_of (nat_eq left 0) d ≡ None → 0 < left
room (suc left) d is none = omega arith
room zero d is absent = absurd (some (rw is refl) absent)
  where
    some : limit_of true d ≡ Some (fault_at code.Limit d d.decl.at) → limit_of true d ≡ None → ⊥
    some is none = absurd cc

filter-more : {A : Type 0} (p : A → Bool) (ys : List A) (y : A) → length (filter p (ys ++ y ∷ [])) ≡ length (filter p ys) + cond (p y) 1 0
filter-more p [] y = by (p y)
  where
    by : (b : Bool) → length (cond b (y ∷ []) []) ≡ 0 + cond b 1 0
    by true = refl
    by false = refl
filter-more p (x ∷ xs) y = by (p x) (filter-more p xs y)
  where
    by : (b : Bool) → length (filter p (xs ++ y ∷ [])) ≡ length (filter p xs) + cond (p y) 1 0
        → length (cond b (x ∷ filter p (xs ++ y ∷ [])) (filter p (xs ++ y ∷ [])))
        ≡ length (cond b (x ∷ filter p xs) (filter p xs)) + cond (p y) 1 0
    by true more = omega (arith, more)
    by false more = more

-- the attributes before the next one
pub attributes_more : {X : Type 0} (v : X → Located) (xs : List X) (k : ℕ) (x : X) → k < length xs → x ≡ get_or xs k x → (b : Bool) → is_attribute (v x).decl.form ≡ b
    → length (attributes (take (k + 1) (map v xs))) ≡ length (attributes (take k (map v xs))) + cond b 1 0
attributes_more v xs k x less is b test =
    ap (λ ys. length (attributes ys)) (take-map v (k + 1) xs ∙ map_more v xs k x less ∙ ap (λ y. map v (take k xs) ++ v y ∷ []) (sym is) ∙ ap (λ ys. ys ++ v x ∷ []) (sym (take-map v k xs)))
    ∙ filter-more (λ (d : Located). is_attribute d.decl.form) (take k (map v xs)) (v x)
    ∙ ap (λ c. length (attributes (take k (map v xs))) + cond c 1 0) test
