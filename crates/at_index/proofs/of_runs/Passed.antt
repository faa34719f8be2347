-- A flush goes along the edges of a run.
use Rattle.at_index.proofs.Common.{◌≡◌, ℕ, ◌+◌, ◌<◌, List, [], ◌∷◌, ◌++◌, Bool, true, false, cond, get_or, length, sym, ap, ◌∙◌, append-nil, take, take_more, flat_map-append, Edge, Reach, edges_past, lies}

-- one edge of a run more
module _ (place : ℕ) (edges : List Reach) (i : ℕ) (d : Reach) (less : i < length edges) where
  abbrev alone : Reach → List Edge
  alone r = cond (lies r.behind r.last place) (r.edge ∷ []) []

  to_here : (b : Bool) → lies (get_or edges i d).behind (get_or edges i d).last place ≡ b
      → edges_past place (take i edges) ++ cond b ((get_or edges i d).edge ∷ []) [] ≡ edges_past place (take (i + 1) edges)
  to_here b h = ap (λ es. edges_past place (take i edges) ++ es) (ap (λ c. cond c ((get_or edges i d).edge ∷ []) []) (sym h) ∙ sym (append-nil (alone (get_or edges i d))))
      ∙ sym (flat_map-append alone (take i edges) (get_or edges i d ∷ [])) ∙ ap (edges_past place) (sym (take_more edges i d less))

  -- it is gone over
  pub past_over : true ≡ lies (get_or edges i d).behind (get_or edges i d).last place
      → edges_past place (take i edges) ++ (get_or edges i d).edge ∷ [] ≡ edges_past place (take (i + 1) edges)
  past_over h = to_here true (sym h)

  -- or it isn't over the place
  pub past_other : false ≡ lies (get_or edges i d).behind (get_or edges i d).last place → edges_past place (take i edges) ≡ edges_past place (take (i + 1) edges)
  past_other h = sym (append-nil (edges_past place (take i edges))) ∙ to_here false (sym h)
