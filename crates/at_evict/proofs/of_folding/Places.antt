-- What stands at places is rewritten, one place behind the other.
use Rattle.at_evict.proofs.Common.{◌≡◌, inl, inr, ℕ, zero, suc, ◌<◌, ◌≤◌, ◌+◌, List, [], ◌∷◌, length, Option, None, Some, Result, OnOk, get_or, slice_get, slice_set, refl, sym, ap, ◌∙◌, subst, arith, Bool, cases_lt, on_ok_weaker, SmallVec, Edge, Edges, Readers, edges_in, AreRefolded, IsNodeRefolded, IsRefolded, Refolded, get_same, got}

-- What stands at the first places is so; the others are as they were.
pub record Below {T : Type 0} (P : Option T → Option T → Type 0) (n : ℕ) (old new : List T) : Type 0 where
  pub done : (k : ℕ) → k < n → P (slice_get old k) (slice_get new k)
  pub todo : (k : ℕ) → n ≤ k → slice_get new k ≡ slice_get old k
  pub len : length new ≡ length old

past : {T : Type 0} (xs : List T) (k : ℕ) → length xs ≤ k → slice_get xs k ≡ None
past [] k over = refl
past (x ∷ xs) zero over = absurd (omega (arith, over))
past (x ∷ xs) (suc k) over = past xs k (omega (arith, over))

module _ {T : Type 0} {P : Option T → Option T → Type 0} where
  pub below_start : (xs : List T) → Below P 0 xs xs
  below_start xs = record { done = λ k less. absurd (omega (arith, less)); todo = λ k over. refl; len = refl }

  pub below_more : {n : ℕ} {old mid new : List T} → Below P n old mid → P (slice_get mid n) (slice_get new n)
      → ((k : ℕ) → (k ≡ n → ⊥) → slice_get new k ≡ slice_get mid k) → length new ≡ length mid → Below P (n + 1) old new
  below_more {n} {old} {mid} {new} b here others len = record {
    done = λ k less. elim (cases_lt k n) [
      | inl is ↦ subst (P (slice_get old k)) (sym (others k (λ same. absurd (omega (arith, same, is))))) (b.done k is)
      | inr over ↦
          let same : n ≡ k = omega (arith, less, over) in
          subst (λ j. P (slice_get old j) (slice_get new j)) same (subst (λ o. P o (slice_get new n)) (b.todo n (omega arith)) here)
    ];
    todo = λ k over. others k (λ same. absurd (omega (arith, over, same))) ∙ b.todo k (omega (arith, over));
    len = len ∙ b.len;
  }

  pub below_end : {n : ℕ} {old new : List T} → Below P n old new → length old ≤ n → P None None → (k : ℕ) → P (slice_get old k) (slice_get new k)
  below_end {n} {old} {new} b all none k = elim (cases_lt k n) [
    | inl is ↦ b.done k is
    | inr over ↦
        let gone : slice_get old k ≡ None = past old k (omega (arith, over, all)) in
        subst (λ o. P o (slice_get new k)) (sym gone) (subst (P None) (sym (b.todo k over ∙ gone)) none)
  ]

module _ (there : Edge → Bool) (into : ℕ → List ℕ) where
  -- the list at a place of those of a node is another
  pub one_place : {E V : Type 0} (rs : List Readers) (p : ℕ) (r : Readers) (v : Edges) (result : Result V E) → p < length rs → r ≡ get_or rs p r
      → OnOk result (Refolded there into (edges_in r.edges) (edges_in v))
      → OnOk result (IsRefolded there into (slice_get rs p) (slice_get (slice_set rs p (record { facet = r.facet; edges = v })) p))
  one_place rs p r v result less read h = on_ok_weaker result made h
    where
      was : slice_get rs p ≡ Some r
      was = got rs p r less ∙ ap Some (sym read)

      made : Refolded there into (edges_in r.edges) (edges_in v) → IsRefolded there into (slice_get rs p) (slice_get (slice_set rs p (record { facet = r.facet; edges = v })) p)
      made lists = subst (λ o. IsRefolded there into o (slice_get (slice_set rs p (record { facet = r.facet; edges = v })) p)) (sym was)
          (record { facet = r.facet; edges = v }, get_same rs p (record { facet = r.facet; edges = v }) r was, refl, lists)

  -- the lists of a node are others
  pub one_node : (vs : List (SmallVec Readers)) (n : ℕ) (v w : SmallVec Readers) → slice_get vs n ≡ Some v → AreRefolded there into v.items w.items
      → IsNodeRefolded there into (slice_get vs n) (slice_get (slice_set vs n w) n)
  one_node vs n v w was lists = subst (λ o. IsNodeRefolded there into o (slice_get (slice_set vs n w) n)) (sym was) (w, get_same vs n w v was, lists)
