-- What is known, step by step.
use Rattle.std.proofs.Common.{◌≡◌, ℕ, zero, suc, ◌+◌, ◌<◌, ◌≤◌, ◌⊎◌, inl, inr, List, [], ◌∷◌, ◌++◌, length, refl, ap, sym, ◌∙◌, subst, arith, true≢false, Option, Some, None, Bool, true, false}
use Rattle.std.specs.Prelude.{◌||◌, ◌&&◌, ◌↔◌, get_or, set, replicate, nat_eq, slice_get, unwrap_or}
use Rattle.std.proofs.lemmas.List.{get_or-set_same, get_or-set_other, length-set}
use Rattle.at_model.specs.Meaning.{Among}
use Rattle.at_model.proofs.Options.{both, and_true, either_true}
use Rattle.at_solve.specs.declared.condition.Condition.{Condition}
use Rattle.at_solve.specs.declared.condition.Condition.TheVariants.{Always, Never, When, Both, Either}
use Rattle.at_solve.specs.Derivations.{Derives, always, follows, by_both, by_one, by_other}
use Rattle.at_solve.specs.Spreading.{named, Names, NamesOne, Spreads, is_known, is_met, is_met_at, is_met_in, unknown}

pub no_way : {A : Type 0} → false ≡ true → A
no_way e = absurd (true≢false (sym e))

-- there is one where something is said of it
pub there : (known : List Bool) (system : List Condition) (n : ℕ) → is_met_at system known n ≡ true → (q : Condition) × (slice_get system n ≡ Some q) × (is_met known q ≡ true)
there known system n e = by (slice_get system n) refl e
  where
    by : (o : Option Condition) → slice_get system n ≡ o → is_met_in known o ≡ true → (q : Condition) × (slice_get system n ≡ Some q) × (is_met known q ≡ true)
    by None is f = no_way f
    by (Some q) is f = (q, is, f)

pub within : {A : Type 0} (xs : List A) (n : ℕ) (x : A) → slice_get xs n ≡ Some x → n < length xs
within [] n x e = absurd cc
within (y ∷ ys) zero x e = omega arith
within (y ∷ ys) (suc n) x e = omega (arith, within ys n x e)

pub known_here : (known : List Bool) (p : ℕ) → p < length known → is_known (set known p true) p ≡ true
known_here known p less = get_or-set_same known p true false less

pub known_there : (known : List Bool) (p u : ℕ) → (u ≡ p → ⊥) → is_known (set known p true) u ≡ is_known known u
known_there known p u other = get_or-set_other known p u true false other

-- it is that one, or another one
pub same_or : (u p : ℕ) → (u ≡ p) ⊎ (u ≡ p → ⊥)
same_or zero zero = inl refl
same_or zero (suc p) = inr (λ e. omega (arith, e))
same_or (suc u) zero = inr (λ e. omega (arith, e))
same_or (suc u) (suc p) = elim (same_or u p) [ inl e ↦ inl (ap suc e) | inr n ↦ inr (λ e. n (omega (arith, e))) ]

-- known before, or that one
pub known_later : (known : List Bool) (p u : ℕ) → is_known (set known p true) u ≡ true → (is_known known u ≡ true) ⊎ (u ≡ p)
known_later known p u e = elim (same_or u p) [ inl is ↦ inr is | inr n ↦ inl (sym (known_there known p u n) ∙ e) ]

-- known before is known
pub known_still : (known : List Bool) (p u : ℕ) → p < length known → is_known known u ≡ true → is_known (set known p true) u ≡ true
known_still known p u less e = elim (same_or u p) [
  | inl is ↦ subst (λ z. is_known (set known p true) z ≡ true) (sym is) (known_here known p less)
  | inr n ↦ known_there known p u n ∙ e
]

pub one_less : (known : List Bool) (p : ℕ) → p < length known → is_known known p ≡ false → unknown (set known p true) + 1 ≡ unknown known
one_less [] p less e = absurd (omega (arith, less))
one_less (true ∷ bs) zero less e = no_way (sym e)
one_less (false ∷ bs) zero less e = omega arith
one_less (true ∷ bs) (suc p) less e = one_less bs p (omega (arith, less)) e
one_less (false ∷ bs) (suc p) less e = omega (arith, one_less bs p (omega (arith, less)) e)

-- what is met by one more was met before, or names that one
pub met_later : (known : List Bool) (p : ℕ) (q : Condition) → is_met (set known p true) q ≡ true → (is_met known q ≡ true) ⊎ Among p (named q)
met_later known p Always e = inl refl
met_later known p Never e = no_way e
met_later known p (When r) e = elim (known_later known p r e) [ inl h ↦ inl h | inr is ↦ inr (inl (sym is)) ]
met_later known p (Both r s) e =
    let (here, there) = both (is_known (set known p true) r) (is_known (set known p true) s) e in
    elim (known_later known p r here) [
      | inr is ↦ inr (inl (sym is))
      | inl h ↦ elim (known_later known p s there) [
        | inr is ↦ inr (inr (inl (sym is)))
        | inl k ↦ inl (and_true (is_known known r) (is_known known s) h k)
      ]
    ]
met_later known p (Either r s) e = elim (either_true (is_known (set known p true) r) (is_known (set known p true) s) e) [
  | inl here ↦ elim (known_later known p r here) [ inl h ↦ inl (or_one (is_known known r) (is_known known s) h) | inr is ↦ inr (inl (sym is)) ]
  | inr there ↦ elim (known_later known p s there) [ inl h ↦ inl (or_other (is_known known r) (is_known known s) h) | inr is ↦ inr (inr (inl (sym is))) ]
]
  where
    or_one : (a b : Bool) → a ≡ true → (a || b) ≡ true
    or_one a b h = rw h refl

    or_other : (a b : Bool) → b ≡ true → (a || b) ≡ true
    or_other true b h = refl
    or_other false b h = h
