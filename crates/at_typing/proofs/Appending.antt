-- Loops that append a part for each item: what is still to come is given by the items that are left.
use Rattle.std.proofs.Common.{◌≡◌, ℕ, suc, ◌+◌, ◌<◌, ◌≤◌, List, [], ◌∷◌, ◌++◌, length, drop, get_or, map, refl, ap, sym, ◌∙◌, add-one, append-nil, append_assoc}
use Rattle.std.proofs.Math.Seq.{drop-cons}
use Rattle.std.proofs.lemmas.List.{drop_all}

-- the part that the next item gives is appended
pub next_part : {X A : Type 0} (g h : List X → List A) (before after part zs : List A) (items : List X) (k : ℕ) (x : X)
    → k < length items → x ≡ get_or items k x → ((rest : List X) → g (x ∷ rest) ≡ part ++ h rest)
    → after ≡ before ++ part → before ++ g (drop k items) ≡ zs → after ++ h (drop (k + 1) items) ≡ zs
next_part g h before after part zs items k x less is law new so_far =
    let rest = drop (suc k) items in
    let here : drop k items ≡ x ∷ rest = drop-cons items k x less ∙ ap (λ y. y ∷ rest) (sym is) in
    rw (new, add-one) (append_assoc before part (h rest) ∙ ap (λ ys. before ++ ys) (sym (law rest)) ∙ ap (λ ys. before ++ g ys) (sym here) ∙ so_far)

-- no item is left
pub no_part : {X A : Type 0} (g : List X → List A) (before zs : List A) (items : List X) (k : ℕ) → length items ≤ k → g [] ≡ [] → before ++ g (drop k items) ≡ zs → before ≡ zs
no_part g before zs items k past none so_far = sym (ap (λ xs. before ++ g xs) (drop_all k items past) ∙ ap (λ ys. before ++ ys) none ∙ append-nil before) ∙ so_far

-- one more, which is known
pub pushed_part : {A : Type 0} (old new : List A) (x a : A) → new ≡ old ++ x ∷ [] → x ≡ a → new ≡ old ++ a ∷ []
pushed_part old new x a pushed is = pushed ∙ ap (λ y. old ++ y ∷ []) is

-- one more, of what they stand for
pub viewed_part : {X A : Type 0} (v : X → A) (old new : List X) (x : X) (a : A) → new ≡ old ++ x ∷ [] → v x ≡ a → map v new ≡ map v old ++ a ∷ []
viewed_part v old new x a pushed is = ap (map v) pushed ∙ appended old ∙ ap (λ b. map v old ++ b ∷ []) is
  where
    appended : (xs : List _) → map v (xs ++ x ∷ []) ≡ map v xs ++ v x ∷ []
    appended [] = refl
    appended (y ∷ ys) = ap (λ zs. v y ∷ zs) (appended ys)
