-- The lists of all locations are rewritten where those of all facets are.
use Rattle.at_evict.proofs.Common.{◌≡◌, inl, inr, ℕ, zero, suc, List, [], ◌∷◌, ◌++◌, Bool, true, false, cond, Option, None, Some, slice_get, sym, ap, ◌∙◌, subst, none-some, same_Some, Contains-append_cases, Contains-append_left, Contains-append_right, SmallVec, Location, Idx, Edge, Readers, AreNoted, edges_in, AreRefolded, IsNodeRefolded, IsRefolded, Refolded, node_at, edges_among, edges_at, stands_for, has, is_in, none_in}
use Rattle.at_evict.proofs.of_folding.Gathering.{user_of}

abbrev edges_of : Location ℕ → Option (SmallVec Readers) → List Edge
edges_of l o = elim o [ None ↦ [] | Some v ↦ edges_among (node_at l) v.items l ]

module _ (there : Edge → Bool) (into : ℕ → List ℕ) where
  pub refolded_none : Refolded there into [] []
  refolded_none = record { has = λ y u is. let (x, c, k, d) = u in absurd (none_in x c); from = λ y c. absurd (none_in y c) }

  pub refolded_append : (a b c d : List Edge) → Refolded there into a b → Refolded there into c d → Refolded there into (a ++ c) (b ++ d)
  refolded_append a b c d left right = record {
    has = λ y u is.
        let (x, k, it, f) = u in
        elim (Contains-append_cases a c x k) [
          | inl e ↦ Contains-append_left b d y (left.has y (x, e, it, f) is)
          | inr e ↦ Contains-append_right b d y (right.has y (x, e, it, f) is)
        ];
    from = λ y k. elim (Contains-append_cases b d y k) [
      | inl e ↦ let (is, u) = left.from y e in (is, user_of there into a (a ++ c) y.slot (λ x f. Contains-append_left a c x f) u)
      | inr e ↦ let (is, u) = right.from y e in (is, user_of there into c (a ++ c) y.slot (λ x f. Contains-append_right a c x f) u)
    ];
  }

  -- those of one facet, where it stands for the location
  refolded_one : (b : Bool) (old new : List Edge) → Refolded there into old new → Refolded there into (cond b old []) (cond b new [])
  refolded_one true old new h = h
  refolded_one false old new h = refolded_none

  pub facets_refolded : (old new : List Readers) → ((p : ℕ) → IsRefolded there into (slice_get old p) (slice_get new p)) → AreRefolded there into old new
  facets_refolded [] [] h n l = refolded_none
  facets_refolded [] (q ∷ qs) h n l = absurd (none-some q (sym (h zero)))
  facets_refolded (r ∷ rs) [] h n l = let (q, is, facet, lists) = h zero in absurd (none-some q is)
  facets_refolded (r ∷ rs) (q ∷ qs) h n l =
      let (it, is, facet, lists) = h zero in
      let same : q ≡ it = same_Some q it is in
      let front : Refolded there into (edges_in r.edges) (edges_in q.edges) = subst (λ (v : Readers). Refolded there into (edges_in r.edges) (edges_in v.edges)) (sym same) lists in
      let facets : r.facet ≡ q.facet = sym (ap (λ (v : Readers). v.facet) same ∙ facet) in
      refolded_append (cond (stands_for n r.facet l) (edges_in r.edges) []) (cond (stands_for n q.facet l) (edges_in q.edges) []) (edges_among n rs l) (edges_among n qs l)
      (subst (λ f. Refolded there into (cond (stands_for n r.facet l) (edges_in r.edges) []) (cond (stands_for n f l) (edges_in q.edges) [])) facets
      (refolded_one (stands_for n r.facet l) (edges_in r.edges) (edges_in q.edges) front))
      (facets_refolded rs qs (λ p. h (suc p)) n l)

  pub nodes_refolded : (old new : List (SmallVec Readers)) → ((k : ℕ) → IsNodeRefolded there into (slice_get old k) (slice_get new k)) → (l : Location ℕ)
      → Refolded there into (edges_at old l) (edges_at new l)
  nodes_refolded old new h l = by (slice_get old (node_at l)) (slice_get new (node_at l)) (h (node_at l))
    where
      by : (o p : Option (SmallVec Readers)) → IsNodeRefolded there into o p → Refolded there into (edges_of l o) (edges_of l p)
      by None p none = subst (λ q. Refolded there into [] (edges_of l q)) (sym none) refolded_none
      by (Some v) p some = let (w, is, lists) = some in subst (λ q. Refolded there into (edges_among (node_at l) v.items l) (edges_of l q)) (sym is) (lists (node_at l) l)

  -- where an edge of a location is, one was
  pub noted_still : (old new : Location ℕ → List Edge) (nodes : List ℕ) → ((l : Location ℕ) → Refolded there into (old l) (new l)) → AreNoted old nodes → AreNoted new nodes
  noted_still old new nodes h noted n x is =
      let (k, (z, c, it, d)) = (h (Idx n)).from x (is_in (new (Idx n)) x is) in
      noted n z (has (old (Idx n)) z c)
