-- A node over trees that are stored: what planting a tree from below comes to.
use Rattle.std.proofs.Common.{◌≡◌, ℕ, [], ◌∷◌, ◌++◌, Option, Some, None, ◌⊎◌, inl, inr, refl, sym, ap, ◌∙◌, subst, option_and_then}
use Rattle.std.specs.Prelude.{map}
use Rattle.std.specs.List.{slice_get}
use Rattle.at_model.specs.Trees.{Tree, Cells, Node as branch, class_of, from_cells}
use Rattle.at_model.specs.Paths.{Node, tree_at, children_at, parent_of}
use Rattle.at_model.proofs.Options.{led}
use Rattle.at_model.proofs.WayUp.{snoc, parent_of-snoc}
use Rattle.at_model.proofs.of_edits.Moving.{Way}
use Rattle.at_store.specs.Numbers.{number_at, IsApart}
use Rattle.at_store.specs.Memory.{Info, kept, kept_of, Place, place_at, IsKept, Stored}

-- the place of a node below a child
pub place_below : (place : Place) (s x : Tree) (w : Way) (n : Node) → slice_get (children_at s w.0) w.1 ≡ Some x → place_at place s (w ∷ n) ≡ place_at (Some (class_of s, w.0), w.1) x n
place_below place s x w n child = by_end (snoc n)
  where
    number : Option Tree → ℕ
    number o = elim o [ None ↦ 0 | Some u ↦ class_of u ]

    shown : Place → Tree → Option (Node × Way) → Place
    shown over t o = elim o [ None ↦ over | Some p ↦ (Some (number_at t p.0, p.1.0), p.1.1) ]

    by_end : (n ≡ []) ⊎ ((k : Node) × (r : Way) × (n ≡ k ++ r ∷ [])) → place_at place s (w ∷ n) ≡ place_at (Some (class_of s, w.0), w.1) x n
    by_end (inl none) = ap (λ z. place_at place s (w ∷ z)) none ∙ ap (place_at (Some (class_of s, w.0), w.1) x) (sym none)
    by_end (inr (k, r, e)) =
        ap (λ z. place_at place s (w ∷ z)) e ∙ ap (shown place s) (parent_of-snoc (w ∷ k) r) ∙ (λ i. (Some (ap (λ o. number (option_and_then (λ v. tree_at v k) o)) child i, r.0), r.1)) ∙
        sym (ap (shown (Some (class_of s, w.0), w.1) x) (ap parent_of e ∙ parent_of-snoc k r))

-- a child is stored at its place
pub child_stored : (memory : ℕ → Option Info) (place : Place) (s : Tree) (w : Way) (x : Tree) → Stored memory place s
    → slice_get (children_at s w.0) w.1 ≡ Some x → Stored memory (Some (class_of s, w.0), w.1) x
child_stored memory place s w x h child n u is =
    let k = h (w ∷ n) u (ap (option_and_then (λ v. tree_at v n)) child ∙ is) in
    let below = place_below place s x w n child in
    record { class = k.class; is = k.is ∙ (λ i. Some (record { class = k.class; up = (below i).0; index = (below i).1; cells = kept_of u })) }

module _ (k : ℕ) (cells : Cells) where
  abbrev whole : Tree
  whole = branch k cells

  pub stored_node : (memory : ℕ → Option Info) (place : Place) → IsKept memory k place (map kept (from_cells cells)) →
      ((w : Way) (x : Tree) → slice_get (children_at (branch k cells) w.0) w.1 ≡ Some x → Stored memory (Some (k, w.0), w.1) x) → Stored memory place (branch k cells)
  stored_node memory place root below [] u is = let e : whole ≡ u = cc in subst (λ z. IsKept memory (class_of z) place (kept_of z)) e root
  stored_node memory place root below (w ∷ n) u is =
      let (x, child, found) = led (λ v. tree_at v n) (slice_get (children_at whole w.0) w.1) u is in
      subst (λ z. IsKept memory (class_of u) z (kept_of u)) (sym (place_below place whole x w n child)) (below w x child n u found)

  pub apart_node : ((w : Way) (x : Tree) → slice_get (children_at (branch k cells) w.0) w.1 ≡ Some x → IsApart x × ((n : Node) (u : Tree) → tree_at x n ≡ Some u → class_of u ≡ k → ⊥)) →
      ((w r : Way) (x y : Tree) (n m : Node) (u v : Tree) → slice_get (children_at (branch k cells) w.0) w.1 ≡ Some x → slice_get (children_at (branch k cells) r.0) r.1 ≡ Some y →
      tree_at x n ≡ Some u → tree_at y m ≡ Some v → class_of u ≡ class_of v → w ≡ r) → IsApart (branch k cells)
  apart_node each across [] [] u v is at' same = refl
  apart_node each across [] (r ∷ m) u v is at' same =
      let (y, child, found) = led (λ z. tree_at z m) (slice_get (children_at whole r.0) r.1) v at' in
      let e : whole ≡ u = cc in absurd ((each r y child).1 m v found (sym same ∙ ap class_of (sym e)))
  apart_node each across (w ∷ n) [] u v is at' same =
      let (x, child, found) = led (λ z. tree_at z n) (slice_get (children_at whole w.0) w.1) u is in
      let e : whole ≡ v = cc in absurd ((each w x child).1 n u found (same ∙ ap class_of (sym e)))
  apart_node each across (w ∷ n) (r ∷ m) u v is at' same =
      let (x, child, found) = led (λ z. tree_at z n) (slice_get (children_at whole w.0) w.1) u is in
      let (y, kid, there) = led (λ z. tree_at z m) (slice_get (children_at whole r.0) r.1) v at' in
      let way = across w r x y n m u v child kid found there same in
      let e : Some x ≡ Some y = sym child ∙ ap (λ (z : Way). slice_get (children_at whole z.0) z.1) way ∙ kid in
      let f : x ≡ y = cc in
      let rest = (each w x child).0 n m u v found (subst (λ z. tree_at z m ≡ Some v) (sym f) there) same in
      λ i. way i ∷ rest i
