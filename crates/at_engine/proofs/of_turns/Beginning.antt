-- Questions that begin anew one after the other.
use Rattle.std.proofs.Common.{◌≡◌, ℕ, zero, suc, ◌+◌, ◌≤◌, List, [], ◌∷◌, length, Option, Some, None, arith, refl, sym, subst}
use Rattle.std.specs.Prelude.{slice_get, slice_set}
use Rattle.at_model.specs.Alike.{ListLike, end, more}
use Rattle.at_model.specs.Paths.{Node}
use Rattle.at_engine.specs.Posted.{IsBegunAnew, IsRenewed}
use Rattle.at_engine.specs.declared.posts.Posted.{Posted}

none_past : {A : Type 0} (xs : List A) (i : ℕ) → slice_get xs i ≡ None → length xs ≤ i
none_past [] i e = omega arith
none_past (x ∷ xs) zero e = absurd cc
none_past (x ∷ xs) (suc i) e = omega (arith, none_past xs i e)

module _ (look : ℕ → Option Node) where
  -- the first ones have begun anew, and the others are as they were
  abbrev pub HaveBegunAnew : ℕ → (old now : List Posted) → Type 0
  HaveBegunAnew zero old now = now ≡ old
  HaveBegunAnew (suc i) [] now = now ≡ []
  HaveBegunAnew (suc i) (p ∷ ps) [] = ⊥
  HaveBegunAnew (suc i) (p ∷ ps) (q ∷ qs) = IsBegunAnew look p q × HaveBegunAnew i ps qs

  one_anew : (i : ℕ) (old now : List Posted) (p q : Posted) → slice_get now i ≡ Some p → IsBegunAnew look p q → HaveBegunAnew i old now → HaveBegunAnew (suc i) old (slice_set now i q)
  one_anew zero old [] p q e r h = absurd cc
  one_anew zero old (x ∷ xs) p q e r h =
      let same : x ≡ p = cc in
      subst (λ (l : List Posted). HaveBegunAnew 1 l (q ∷ xs)) h (subst (λ (y : Posted). IsBegunAnew look y q) (sym same) r, refl)
  one_anew (suc i) old [] p q e r h = absurd cc
  one_anew (suc i) [] (x ∷ xs) p q e r h = absurd cc
  one_anew (suc i) (o ∷ os) (x ∷ xs) p q e r h = (h.0, one_anew i os xs p q e r h.1)

  none_anew : (i : ℕ) (old now : List Posted) → length now ≤ i → HaveBegunAnew i old now → HaveBegunAnew (suc i) old now
  none_anew zero old [] le h = subst (λ (l : List Posted). HaveBegunAnew 1 l []) h refl
  none_anew zero old (x ∷ xs) le h = absurd (omega (arith, le))
  none_anew (suc i) [] now le h = h
  none_anew (suc i) (o ∷ os) [] le h = absurd h
  none_anew (suc i) (o ∷ os) (x ∷ xs) le h = (h.0, none_anew i os xs (omega (arith, le)) h.1)

  pub next_anew : (i : ℕ) (old now : List Posted) (p q : Posted) → slice_get now i ≡ Some p → IsBegunAnew look p q → HaveBegunAnew i old now → HaveBegunAnew (i + 1) old (slice_set now i q)
  next_anew i old now p q e r h = let next : suc i ≡ i + 1 = omega arith in subst (λ n. HaveBegunAnew n old (slice_set now i q)) next (one_anew i old now p q e r h)

  pub past_anew : (i : ℕ) (old now : List Posted) → length now ≤ i → HaveBegunAnew i old now → HaveBegunAnew (i + 1) old now
  past_anew i old now le h = let next : suc i ≡ i + 1 = omega arith in subst (λ n. HaveBegunAnew n old now) next (none_anew i old now le h)

  pub next_renewed : (i : ℕ) (old now after : List Posted) (o : Option Posted) → slice_get now i ≡ o → ((p : Posted) → slice_get now i ≡ Some p → IsRenewed look i p now after) → (slice_get now i ≡ None → after ≡ now) → HaveBegunAnew i old now → HaveBegunAnew (i + 1) old after
  next_renewed i old now after (Some p) e renewed none h =
      let r = renewed p e in subst (λ (l : List Posted). HaveBegunAnew (i + 1) old l) (sym r.items) (next_anew i old now p r.again e r.anew h)
  next_renewed i old now after None e renewed none h =
      subst (λ (l : List Posted). HaveBegunAnew (i + 1) old l) (sym (none e)) (past_anew i old now (none_past now i e) h)

  pub all_begun_anew : (i : ℕ) (old now : List Posted) → length old ≤ i → HaveBegunAnew i old now → ListLike (IsBegunAnew look) old now
  all_begun_anew zero [] now le h = subst (ListLike (IsBegunAnew look) []) (sym h) end
  all_begun_anew zero (o ∷ os) now le h = absurd (omega (arith, le))
  all_begun_anew (suc i) [] now le h = subst (ListLike (IsBegunAnew look) []) (sym h) end
  all_begun_anew (suc i) (o ∷ os) [] le h = absurd h
  all_begun_anew (suc i) (o ∷ os) (x ∷ xs) le h = more h.0 (all_begun_anew i os xs (omega (arith, le)) h.1)
