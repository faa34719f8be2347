-- Positions in lists.
use Rattle.std.proofs.Common.{◌≡◌, ◌⊎◌, inl, inr, ℕ, zero, suc, ◌+◌, ◌<◌, true, false, true≢false, List, [], ◌∷◌, get_or, length, slice_get, Some, refl, sym, ap, ◌∙◌, arith}
use Rattle.std.proofs.lemmas.Bool.{cases_lt}
use Rattle.std.proofs.lemmas.Map.Keys.{apart_from_distinct}
use Rattle.std.specs.List.{IsDistinct}
use Rattle.at_model.specs.Run.{Instance}
use Rattle.at_body.specs.Same.{same_instance}
use Rattle.at_search.specs.Systems.{AreApart}
use Rattle.at_search.proofs.Sameness.{same_refl}

module _ {A : Type 0} where
  pub within : (xs : List A) (n : ℕ) (x : A) → slice_get xs n ≡ Some x → n < length xs
  within [] n x e = absurd cc
  within (y ∷ ys) zero x e = omega arith
  within (y ∷ ys) (suc n) x e = omega (arith, within ys n x e)

  -- what is read where it stands
  pub read_at : (xs : List A) (n : ℕ) (x d : A) → slice_get xs n ≡ Some x → get_or xs n d ≡ x
  read_at [] n x d e = absurd cc
  read_at (y ∷ ys) zero x d e = cc
  read_at (y ∷ ys) (suc n) x d e = read_at ys n x d e

  -- what is read stands there
  pub item_at : (xs : List A) (n : ℕ) (x d : A) → n < length xs → x ≡ get_or xs n d → slice_get xs n ≡ Some x
  item_at [] n x d less e = absurd (omega (arith, less))
  item_at (y ∷ ys) zero x d less e = ap (λ (z : A). Some z) (sym e)
  item_at (y ∷ ys) (suc n) x d less e = item_at ys n x d (omega (arith, less)) e

-- keys that the test tells apart stand once
pub keys_apart : (ks : List (Instance ℕ)) → IsDistinct same_instance ks → AreApart ks
keys_apart ks d p q i at_p at_q = elim (cases_lt p q) [
  | inl less ↦ absurd (no_pair p q at_p at_q less)
  | inr not_less ↦ elim (cases_lt q p) [
    | inl more ↦ absurd (no_pair q p at_q at_p more)
    | inr not_more ↦ omega (arith, not_less, not_more)
  ]
]
  where
    no_pair : (a b : ℕ) → slice_get ks a ≡ Some i → slice_get ks b ≡ Some i → a < b → ⊥
    no_pair a b at_a at_b less =
        true≢false (sym (same_refl i) ∙ ap (λ z. same_instance z i) (sym (read_at ks a i i at_a))
        ∙ ap (same_instance (get_or ks a i)) (sym (read_at ks b i i at_b))
        ∙ apart_from_distinct same_instance ks a b i d less (within ks b i at_b))

-- whether two numbers are the same
pub same_or_not : (m n : ℕ) → (m ≡ n) ⊎ (m ≡ n → ⊥)
same_or_not zero zero = inl refl
same_or_not zero (suc n) = inr (λ e. omega (arith, e))
same_or_not (suc m) zero = inr (λ e. omega (arith, e))
same_or_not (suc m) (suc n) = elim (same_or_not m n) [ inl e ↦ inl (ap suc e) | inr off ↦ inr (λ e. off (omega (arith, e))) ]
