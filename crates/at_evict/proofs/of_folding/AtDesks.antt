-- The lists of drawers are rewritten where those of all desks are.
use Rattle.at_evict.proofs.Common.{◌≡◌, ℕ, zero, suc, List, [], ◌∷◌, Bool, true, false, cond, Option, None, Some, Result, OnOk, nat_eq, slice_get, refl, sym, ap, ◌∙◌, subst, lookup, none-some, same_Some, on_ok_weaker, SmallVec, Location, Is, Tok, Slot, Up, Idx, Drawer, Edge, Edges, Readers, desk_edges, drawer_at, edges_in_desks, edges_in, own_edges, edges_at, same_location, AreDesksRefolded, IsDeskRefolded, IsNodeOfDesks, Refolded}
use Rattle.indexmap.specs.IndexMap.{set_value_at}
use Rattle.at_index.specs.declared.desk.Desks.{Desks}
use Rattle.at_index.specs.declared.desk.Spot.{Spot}
use Rattle.at_evict.proofs.of_folding.Nodes.{refolded_append, refolded_none}

-- another value at a place
module _ {K X : Type 0} where
  pub set_same : (es : List (K × X)) (i : ℕ) (k : K) (v w : X) → slice_get es i ≡ Some (k, v) → slice_get (set_value_at es i w) i ≡ Some (k, w)
  set_same [] i k v w h = absurd (none-some (k, v) h)
  set_same (e ∷ es) zero k v w h = ap (λ (d : K × X). Some (d.0, w)) (same_Some e (k, v) h)
  set_same (e ∷ es) (suc i) k v w h = set_same es i k v w h

  pub set_other : (es : List (K × X)) (i j : ℕ) (w : X) → (j ≡ i → ⊥) → slice_get (set_value_at es i w) j ≡ slice_get es j
  set_other [] i j w differs = refl
  set_other (e ∷ es) zero zero w differs = absurd (differs refl)
  set_other (e ∷ es) zero (suc j) w differs = refl
  set_other (e ∷ es) (suc i) zero w differs = refl
  set_other (e ∷ es) (suc i) (suc j) w differs = set_other es i j w (λ same. differs (ap suc same))

module _ (there : Edge → Bool) (into : ℕ → List ℕ) where
  -- the desk at a place has other edges
  pub one_desk : {E V : Type 0} (ds : List (Spot × Edges)) (p : ℕ) (s : Spot) (v w : Edges) (result : Result V E) → slice_get ds p ≡ Some (s, v)
      → OnOk result (Refolded there into (edges_in v) (edges_in w))
      → OnOk result (IsDeskRefolded there into (slice_get ds p) (slice_get (set_value_at ds p w) p))
  one_desk ds p s v w result was h =
      on_ok_weaker result (λ lists. subst (λ o. IsDeskRefolded there into o (slice_get (set_value_at ds p w) p)) (sym was) ((s, w), set_same ds p s v w was, refl, lists)) h

  -- the desks of the node at a place are others
  pub one_node_of_desks : {E V : Type 0} (all : List (ℕ × Desks)) (p n : ℕ) (v w : Desks) (result : Result V E) → slice_get all p ≡ Some (n, v)
      → OnOk result (AreDesksRefolded there into v.spots.entries w.spots.entries)
      → OnOk result (IsNodeOfDesks there into (slice_get all p) (slice_get (set_value_at all p w) p))
  one_node_of_desks all p n v w result was h =
      on_ok_weaker result (λ lists. subst (λ o. IsNodeOfDesks there into o (slice_get (set_value_at all p w) p)) (sym was) ((n, w), set_same all p n v w was, refl, lists)) h

  -- those of one desk, where it is of the location
  either : (b : Bool) (old new : List Edge) → Refolded there into old new → Refolded there into (cond b old []) (cond b new [])
  either true old new h = h
  either false old new h = refolded_none there into

  pub desks_refolded : (old new : List (Spot × Edges)) → ((p : ℕ) → IsDeskRefolded there into (slice_get old p) (slice_get new p)) → AreDesksRefolded there into old new
  desks_refolded [] [] h n l = refolded_none there into
  desks_refolded [] (q ∷ qs) h n l = absurd (none-some q (sym (h zero)))
  desks_refolded (r ∷ rs) [] h n l = let (q, is, spot, lists) = h zero in absurd (none-some q is)
  desks_refolded (r ∷ rs) (q ∷ qs) h n l =
      let (it, is, spot, lists) = h zero in
      let same : q ≡ it = same_Some q it is in
      let front : Refolded there into (edges_in r.1) (edges_in q.1) = subst (λ (v : Spot × Edges). Refolded there into (edges_in r.1) (edges_in v.1)) (sym same) lists in
      let spots : r.0 ≡ q.0 = sym (ap (λ (v : Spot × Edges). v.0) same ∙ spot) in
      refolded_append there into (cond (same_location l (drawer_at n r.0)) (edges_in r.1) []) (cond (same_location l (drawer_at n q.0)) (edges_in q.1) []) (edges_in_desks n rs l) (edges_in_desks n qs l)
      (subst (λ (s : Spot). Refolded there into (cond (same_location l (drawer_at n r.0)) (edges_in r.1) []) (cond (same_location l (drawer_at n s)) (edges_in q.1) [])) spots
      (either (same_location l (drawer_at n r.0)) (edges_in r.1) (edges_in q.1) front))
      (desks_refolded rs qs (λ p. h (suc p)) n l)

  -- what a node has
  abbrev AreThere : Option Desks → Option Desks → Type 0
  AreThere old new = (n : ℕ) (l : Location ℕ)
      → Refolded there into (elim old as (λ _. List Edge) [ None ↦ [] | Some d ↦ edges_in_desks n d.spots.entries l ])
      (elim new as (λ _. List Edge) [ None ↦ [] | Some d ↦ edges_in_desks n d.spots.entries l ])

  looked_up : (node : ℕ) (old new : List (ℕ × Desks)) → ((p : ℕ) → IsNodeOfDesks there into (slice_get old p) (slice_get new p))
      → AreThere (lookup (nat_eq node) old) (lookup (nat_eq node) new)
  looked_up node [] [] h = λ n l. refolded_none there into
  looked_up node [] (q ∷ qs) h = absurd (none-some q (sym (h zero)))
  looked_up node (r ∷ rs) [] h = let (q, is, key, lists) = h zero in absurd (none-some q is)
  looked_up node (r ∷ rs) (q ∷ qs) h =
      let (it, is, key, lists) = h zero in
      let same : q ≡ it = same_Some q it is in
      let front : AreDesksRefolded there into r.1.spots.entries q.1.spots.entries = subst (λ (v : ℕ × Desks). AreDesksRefolded there into r.1.spots.entries v.1.spots.entries) (sym same) lists in
      let keys : r.0 ≡ q.0 = sym (ap (λ (v : ℕ × Desks). v.0) same ∙ key) in
      subst (λ k. AreThere (cond (nat_eq node r.0) (Some r.1) (lookup (nat_eq node) rs)) (cond (nat_eq node k) (Some q.1) (lookup (nat_eq node) qs))) keys
      (by (nat_eq node r.0) front (looked_up node rs qs (λ p. h (suc p))))
    where
      by : (b : Bool) → AreDesksRefolded there into r.1.spots.entries q.1.spots.entries → AreThere (lookup (nat_eq node) rs) (lookup (nat_eq node) qs)
          → AreThere (cond b (Some r.1) (lookup (nat_eq node) rs)) (cond b (Some q.1) (lookup (nat_eq node) qs))
      by true front rest = front
      by false front rest = rest

  pub all_desks_refolded : (old new : List (ℕ × Desks)) → ((p : ℕ) → IsNodeOfDesks there into (slice_get old p) (slice_get new p)) → (l : Location ℕ)
      → Refolded there into (desk_edges old l) (desk_edges new l)
  all_desks_refolded old new h (Is n) = refolded_none there into
  all_desks_refolded old new h (Tok n part) = refolded_none there into
  all_desks_refolded old new h (Slot n part) = refolded_none there into
  all_desks_refolded old new h (Up n) = refolded_none there into
  all_desks_refolded old new h (Idx n) = refolded_none there into
  all_desks_refolded old new h (Drawer n part key mark) = looked_up n old new h n (Drawer n part key mark)

  -- and so are those of all locations, beside those over seats
  pub own_refolded : (old new : List (ℕ × Desks)) (own later : List (SmallVec Readers)) → ((l : Location ℕ) → Refolded there into (desk_edges old l) (desk_edges new l))
      → ((l : Location ℕ) → Refolded there into (edges_at own l) (edges_at later l)) → (l : Location ℕ)
      → Refolded there into (own_edges old own l) (own_edges new later l)
  own_refolded old new own later h g l = refolded_append there into (desk_edges old l) (desk_edges new l) (edges_at own l) (edges_at later l) (h l) (g l)
