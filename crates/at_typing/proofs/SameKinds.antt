-- Kinds that are written the same, one by one.
use Rattle.std.proofs.Common.{◌≡◌, ◌≢◌, ℕ, suc, ◌+◌, ◌<◌, ◌≤◌, length, drop, get_or, arith, Bool, true, false, ◌&&◌, List, [], ◌∷◌, map, refl, ap, sym, ◌∙◌}
use Rattle.std.proofs.Math.Seq.{drop-cons}
use Rattle.std.proofs.lemmas.List.{drop_all}
use Rattle.at_jrag.specs.Syntax.{Param}
use Rattle.at_typing.specs.Declaring.{have_same_kinds, is_same_kind}

-- of other lengths
pub other_lengths : {X : Type 0} (v : X → Param) (ps qs : List X) → length ps ≢ length qs → false ≡ have_same_kinds (map v ps) (map v qs)
other_lengths v [] [] differ = absurd (differ refl)
other_lengths v [] (q ∷ qs) differ = refl
other_lengths v (p ∷ ps) [] differ = refl
other_lengths v (p ∷ ps) (q ∷ qs) differ = none (is_same_kind (v p).kind.kind (v q).kind.kind) (other_lengths v ps qs (λ same. differ (ap suc same)))
  where
    none : (b : Bool) {r : Bool} → false ≡ r → false ≡ (b && r)
    none true h = h
    none false h = refl

-- those from this position on
abbrev pub same_from : {X : Type 0} → (X → Param) → List X → List X → ℕ → Bool
same_from v ps qs i = have_same_kinds (map v (drop i ps)) (map v (drop i qs))

next : (n : ℕ) → suc n ≡ n + 1
next n = omega arith

front : {X : Type 0} (xs : List X) (i : ℕ) (x : X) → i < length xs → x ≡ get_or xs i x → drop i xs ≡ x ∷ drop (i + 1) xs
front xs i x less is = drop-cons xs i x less ∙ ap (λ y. y ∷ drop (suc i) xs) (sym is) ∙ ap (λ n. x ∷ drop n xs) (next i)

same_step : {X : Type 0} (v : X → Param) (ps qs : List X) (i : ℕ) (p q : X) → i < length ps
    → i < length qs → p ≡ get_or ps i p → q ≡ get_or qs i q
    → same_from v ps qs i ≡ (is_same_kind (v p).kind.kind (v q).kind.kind && same_from v ps qs (i + 1))
same_step v ps qs i p q less less' is is' = ap (λ xs. have_same_kinds (map v xs) (map v (drop i qs))) (front ps i p less
    is) ∙ ap (λ ys. have_same_kinds (map v (p ∷ drop (i + 1) ps)) (map v ys)) (front qs i q less' is')

pub same_more : {X : Type 0} (v : X → Param) (ps qs : List X) (i : ℕ) (p q : X) → i < length ps → i < length qs
    → p ≡ get_or ps i p → q ≡ get_or qs i q → is_same_kind (v p).kind.kind (v q).kind.kind ≡ true
    → same_from v ps qs i ≡ same_from v ps qs (i + 1)
same_more v ps qs i p q less less' is is' same = same_step v ps qs i p q less less' is is' ∙ ap (λ b. b && same_from v ps qs (i + 1)) same

pub same_never : {X : Type 0} (v : X → Param) (ps qs : List X) (i : ℕ) (p q : X) → i < length ps → i < length qs
    → p ≡ get_or ps i p → q ≡ get_or qs i q → is_same_kind (v p).kind.kind (v q).kind.kind ≡ false
    → same_from v ps qs i ≡ false
same_never v ps qs i p q less less' is is' same = same_step v ps qs i p q less less' is is' ∙ ap (λ b. b && same_from v ps qs (i + 1)) same

pub same_end : {X : Type 0} (v : X → Param) (ps qs : List X) (i : ℕ) → length ps ≤ i → length qs ≤ i → same_from v ps qs i ≡ true
same_end v ps qs i past past' = rw (drop_all i ps past, drop_all i qs past') refl
