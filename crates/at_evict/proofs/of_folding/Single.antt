-- What comes in the place of one edge.
use Rattle.at_evict.proofs.Common.{◌≡◌, ℕ, List, [], ◌∷◌, true, false, true≢false, Option, None, Some, IfSome, Contains, refl, sym, ap, ◌∙◌, subst, Edge, Edges, edges_in, HasUser, Refolded, Info, Memory, is_current, edge_to, head_of, none_in, current}
use Rattle.at_evict.proofs.of_folding.Gathering.{only_one, told_same}

module _ (m : Memory) (into : ℕ → List ℕ) (x : Edge) where
  -- of one that tells of no entry
  pub refolded_stale : (new : List Edge) → is_current m x ≡ false → new ≡ [] → Refolded (is_current m) into (x ∷ []) new
  refolded_stale new stale none = record {
    has = λ y u k. let (z, c, is, d) = u in absurd (true≢false (sym is ∙ ap (is_current m) (only_one x z c) ∙ stale));
    from = λ y c. absurd (none_in y (subst (λ es. Contains es y) none c));
  }

  -- of one that is folded into one alone
  pub refolded_one : (slot : ℕ) (e : Info) (new : List Edge) → is_current m x ≡ true → into x.slot ≡ slot ∷ [] → m slot ≡ Some e
      → new ≡ edge_to slot e ∷ [] → Refolded (is_current m) into (x ∷ []) new
  refolded_one slot e new is only there so = record {
    has = λ y u k.
        let (z, c, told, d) = u in
        let here : y.slot ≡ slot = only_one slot y.slot (subst (λ rs. Contains rs y.slot) (ap (λ (v : Edge). into v.slot) (only_one x z c) ∙ only) d) in
        subst (λ es. Contains es y) (sym so)
        (subst (Contains (edge_to slot e ∷ [])) (told_same m (edge_to slot e) y it k (sym here)) (head_of (edge_to slot e) []));
    from = λ y c.
        let same : y ≡ edge_to slot e = only_one (edge_to slot e) y (subst (λ es. Contains es y) so c) in
        subst (λ (v : Edge). (is_current m v ≡ true) × HasUser (is_current m) into (x ∷ []) v.slot) (sym same)
        (it, (x, head_of x [], is, subst (λ rs. Contains rs slot) (sym only) (head_of slot [])));
  }
    where
      it : is_current m (edge_to slot e) ≡ true
      it = current m (edge_to slot e) e there refl

  -- so it is with what an edge to that one is made of
  pub refolded_to : (slot : ℕ) (o : Option Edges) → is_current m x ≡ true → into x.slot ≡ slot ∷ []
      → IfSome o (λ es. (e : Info) × (m slot ≡ Some e) × (edges_in es ≡ edge_to slot e ∷ [])) → IfSome o (λ es. Refolded (is_current m) into (x ∷ []) (edges_in es))
  refolded_to slot None is only h = tt
  refolded_to slot (Some es) is only (e, there, so) = refolded_one slot e (edges_in es) is only there so
