-- What is counted of marks, when marks come and go.
use Rattle.std.proofs.Common.{◌≡◌, ◌∙◌, ◌+◌, ◌-◌, ◌≤◌, ◌||◌, ℕ, zero, suc, nat_lt, Bool, true, false, cond, List, [], ◌∷◌, ◌++◌, length, take, drop, filter, count_by, Option, Some, is_some, arith, refl, sym, ap, subst, append-nil, append_assoc, slice_get}
use Rattle.std.proofs.lemmas.List.{take_all, drop_all}
use Rattle.std.proofs.lemmas.Bool.{lt-ltb}
use Rattle.std.specs.List.{list_any}
use Rattle.std.proofs.lemmas.List.Sums.{sum_by-cons}
use Rattle.std.proofs.lemmas.List.Elements.{filter-append}
use Rattle.at_engine.specs.Marks.{Mark}
use Rattle.at_engine.specs.Tallied.{AreTallied, kept_up_to}
use Rattle.at_engine.specs.declared.marks.tally.Tally.{Tally}

module _ (p : Mark → Bool) where
  -- where some are counted, there is one
  counted_one : (b : Bool) (n : ℕ) (more : Bool) → nat_lt 0 n ≡ more → nat_lt 0 (cond b 1 0 + n) ≡ (b || more)
  counted_one true n more h = lt-ltb 0 (1 + n) (omega arith)
  counted_one false n more h = let e : 0 + n ≡ n = omega arith in ap (nat_lt 0) e ∙ h

  pub some_counted : (ms : List Mark) → nat_lt 0 (count_by p ms) ≡ list_any p ms
  some_counted [] = refl
  some_counted (m ∷ ms) = ap (nat_lt 0) (sum_by-cons (λ (x : Mark). cond (p x) 1 0) m ms) ∙ counted_one (p m) (count_by p ms) (list_any p ms) (some_counted ms)

module _ {N : Type 0} (look : ℕ → Option N) where
  one_kept : (m : Mark) (front back : List Mark) (b : Bool) → is_some (look m.node) ≡ b → filter (λ (x : Mark). is_some (look x.node)) (front ++ m ∷ []) ++ back ≡ filter (λ (x : Mark). is_some (look x.node)) front ++ cond b (m ∷ back) back
  one_kept m front back b e =
      let f : Mark → Bool = λ x. is_some (look x.node) in
      ap (λ l. l ++ back) (filter-append f front (m ∷ [])) ∙ append_assoc (filter f front) (filter f (m ∷ [])) back ∙ ap (λ l. filter f front ++ l) (by b e)
    where
      by : (b : Bool) → is_some (look m.node) ≡ b → filter (λ (x : Mark). is_some (look x.node)) (m ∷ []) ++ back ≡ cond b (m ∷ back) back
      by true e = ap (λ (c : Bool). cond c (m ∷ []) [] ++ back) e
      by false e = ap (λ (c : Bool). cond c (m ∷ []) [] ++ back) e

  -- a mark at the position is looked at
  pub kept_more : (ms : List Mark) (i : ℕ) (m : Mark) (s t n u : Tally) → slice_get ms i ≡ Some m
      → ((front back : List Mark) → AreTallied (front ++ m ∷ back) s n → AreTallied (front ++ cond (is_some (look m.node)) (m ∷ back) back) t u)
      → AreTallied (kept_up_to look i ms) s n → AreTallied (kept_up_to look (i + 1) ms) t u
  kept_more ms i m s t n u at step is =
      let f : Mark → Bool = λ x. is_some (look x.node) in
      let next : suc i ≡ i + 1 = omega arith in
      let again : AreTallied (kept_up_to look (suc i) ms) t u =
      subst (λ l. AreTallied l t u) (sym (ap (λ l. filter f l ++ drop (suc i) ms) (front_at ms i m at) ∙ one_kept m (take i ms) (drop (suc i) ms) (is_some (look m.node)) refl))
      (step (filter f (take i ms)) (drop (suc i) ms) (subst (λ l. AreTallied (filter f (take i ms) ++ l) s n) (rest_at ms i m at) is)) in
      subst (λ (k : ℕ). AreTallied (kept_up_to look k ms) t u) next again
    where
      rest_at : (ms : List Mark) (i : ℕ) (m : Mark) → slice_get ms i ≡ Some m → drop i ms ≡ m ∷ drop (suc i) ms
      rest_at [] i m at = absurd cc
      rest_at (x ∷ ms) zero m at = let e : x ≡ m = cc in ap (λ y. y ∷ ms) e
      rest_at (x ∷ ms) (suc i) m at = rest_at ms i m at

      front_at : (ms : List Mark) (i : ℕ) (m : Mark) → slice_get ms i ≡ Some m → take (suc i) ms ≡ take i ms ++ m ∷ []
      front_at [] i m at = absurd cc
      front_at (x ∷ ms) zero m at = let e : x ≡ m = cc in ap (λ y. y ∷ []) e
      front_at (x ∷ ms) (suc i) m at = ap (λ l. x ∷ l) (front_at ms i m at)

  -- behind all marks there is none to look at
  pub kept_no_more : (ms : List Mark) (i : ℕ) (s n : Tally) → length ms ≤ i → AreTallied (kept_up_to look i ms) s n → AreTallied (kept_up_to look (i + 1) ms) s n
  kept_no_more ms i s n past is =
      let f : Mark → Bool = λ x. is_some (look x.node) in
      let more : length ms ≤ i + 1 = omega (arith, past) in
      subst (λ l. AreTallied l s n) (ap (λ l. filter f l ++ drop i ms) (take_all i ms past ∙ sym (take_all (i + 1) ms more)) ∙ ap (λ l. filter f (take (i + 1) ms) ++ l) (drop_all i ms past ∙ sym (drop_all (i + 1) ms more))) is

  -- before any is looked at, and when all were
  pub kept_first : (ms : List Mark) → kept_up_to look 0 ms ≡ ms
  kept_first [] = refl
  kept_first (m ∷ ms) = refl

  pub kept_last : (ms : List Mark) (i : ℕ) → length ms ≤ i → kept_up_to look i ms ≡ filter (λ (m : Mark). is_some (look m.node)) ms
  kept_last ms i past =
      let f : Mark → Bool = λ x. is_some (look x.node) in
      ap (λ l. filter f l ++ drop i ms) (take_all i ms past) ∙ ap (λ l. filter f ms ++ l) (drop_all i ms past) ∙ append-nil (filter f ms)
