-- A tree has more nodes than any node of it has children.
use Rattle.std.proofs.Common.{◌≡◌, ◌≤◌, ◌<◌, ◌⊎◌, inl, inr, ℕ, zero, suc, true, [], ◌∷◌, ◌++◌, Option, Some, None, refl, sym, ap, ◌∙◌, arith, length, option_and_then}
use Rattle.std.specs.List.{slice_get}
use Rattle.std.proofs.lemmas.Bool.{leb-true}
use Rattle.std.proofs.lemmas.Option.{slice_get_within}
use Rattle.at_model.specs.Trees.{Tree, Cells, Cell, Trees, Node as branch, no_cells, cell, One, Many, Empty, Filled, Holds, no_trees, tree, children, from_cells, from_trees, nodes, cells_nodes, cell_nodes, trees_nodes}
use Rattle.at_model.specs.Paths.{Node, tree_at, children_at, parent_of}
use Rattle.at_model.specs.Meaning.{content}
use Rattle.at_model.specs.Run.{Idx}
use Rattle.at_model.specs.Edits.{is_within_limits}
use Rattle.at_model.proofs.Options.{both, led}
use Rattle.at_model.proofs.of_edits.Untouched.{in_cell as kids}
use Rattle.at_model.proofs.WayUp.{snoc, parent_of-snoc}

some_node : (t : Tree) → 1 ≤ nodes t
some_node (branch c cells) = omega arith

trees_fewer : (ts : Trees) → length (from_trees ts) ≤ trees_nodes ts
trees_fewer no_trees = omega arith
trees_fewer (tree t ts) = omega (arith, some_node t, trees_fewer ts)

cell_fewer : (c : Cell) → length (children c) ≤ cell_nodes c
cell_fewer (One t) = some_node t
cell_fewer (Many ts) = trees_fewer ts
cell_fewer Empty = omega arith
cell_fewer (Filled t) = some_node t
cell_fewer (Holds v) = omega arith

cells_fewer : (cs : Cells) (part : ℕ) → length (kids (slice_get (from_cells cs) part)) ≤ cells_nodes cs
cells_fewer no_cells part = omega arith
cells_fewer (cell c cs) zero = omega (arith, cell_fewer c)
cells_fewer (cell c cs) (suc part) = omega (arith, cells_fewer cs part)

pub children_fewer : (t : Tree) (part : ℕ) → length (children_at t part) ≤ nodes t
children_fewer (branch k cells) part = omega (arith, cells_fewer cells part)

trees_smaller : (ts : Trees) (i : ℕ) (x : Tree) → slice_get (from_trees ts) i ≡ Some x → nodes x ≤ trees_nodes ts
trees_smaller no_trees i x e = absurd cc
trees_smaller (tree t ts) zero x e = let same : t ≡ x = cc in omega (arith, ap nodes same)
trees_smaller (tree t ts) (suc i) x e = omega (arith, trees_smaller ts i x e)

one_smaller : (t : Tree) (i : ℕ) (x : Tree) → slice_get (t ∷ []) i ≡ Some x → nodes x ≤ nodes t
one_smaller t zero x e = let same : t ≡ x = cc in omega (arith, ap nodes same)
one_smaller t (suc i) x e = absurd cc

cell_smaller : (c : Cell) (i : ℕ) (x : Tree) → slice_get (children c) i ≡ Some x → nodes x ≤ cell_nodes c
cell_smaller (One t) i x e = one_smaller t i x e
cell_smaller (Many ts) i x e = trees_smaller ts i x e
cell_smaller Empty i x e = absurd cc
cell_smaller (Filled t) i x e = one_smaller t i x e
cell_smaller (Holds v) i x e = absurd cc

cells_smaller : (cs : Cells) (part i : ℕ) (x : Tree) → slice_get (kids (slice_get (from_cells cs) part)) i ≡ Some x → nodes x ≤ cells_nodes cs
cells_smaller no_cells part i x e = absurd cc
cells_smaller (cell c cs) zero i x e = omega (arith, cell_smaller c i x e)
cells_smaller (cell c cs) (suc part) i x e = omega (arith, cells_smaller cs part i x e)

child_smaller : (t : Tree) (part i : ℕ) (x : Tree) → slice_get (children_at t part) i ≡ Some x → nodes x ≤ nodes t
child_smaller (branch k cells) part i x e = omega (arith, cells_smaller cells part i x e)

pub below_smaller : (t : Tree) (n : Node) (u : Tree) → tree_at t n ≡ Some u → nodes u ≤ nodes t
below_smaller t [] u is = let same : t ≡ u = cc in omega (arith, ap nodes same)
below_smaller t (w ∷ n) u is =
    let (x, child, found) = led (λ v. tree_at v n) (slice_get (children_at t w.0) w.1) u is in
    omega (arith, child_smaller t w.0 w.1 x child, below_smaller x n u found)

-- the parent is there, and the node is its child
pub above_there : (t : Tree) (m : Node) (w : ℕ × ℕ) (v : Tree) → tree_at t (m ++ w ∷ []) ≡ Some v → (u : Tree) × (tree_at t m ≡ Some u) × (slice_get (children_at u w.0) w.1 ≡ Some v)
above_there t [] w v is = let (x, child, found) = led (λ y. tree_at y []) (slice_get (children_at t w.0) w.1) v is in let e : x ≡ v = cc in (t, refl, child ∙ ap Some e)
above_there t (r ∷ m) w v is =
    let (x, child, found) = led (λ y. tree_at y (m ++ w ∷ [])) (slice_get (children_at t r.0) r.1) v is in
    let (u, there, last) = above_there x m w v found in
    (u, ap (option_and_then (λ y. tree_at y m)) child ∙ there, last)

index_at : Option (Node × (ℕ × ℕ)) → ℕ
index_at o = elim o [ None ↦ 0 | Some p ↦ p.1.1 ]

pub index_fewer : (t : Tree) (n : Node) (v : Tree) → tree_at t n ≡ Some v → content t (Idx n) < nodes t
unfolding index_at
index_fewer t n v is = by_end (snoc n)
  where
    by_end : (n ≡ []) ⊎ ((m : Node) × (w : ℕ × ℕ) × (n ≡ m ++ w ∷ [])) → index_at (parent_of n) < nodes t
    by_end (inl e) = let z : index_at (parent_of n) ≡ 0 = ap (λ k. index_at (parent_of k)) e in omega (arith, z, some_node t)
    by_end (inr (m, w, e)) =
        let (u, there, child) = above_there t m w v (sym (ap (tree_at t) e) ∙ is) in
        let z : index_at (parent_of n) ≡ w.1 = ap (λ k. index_at (parent_of k)) e ∙ ap index_at (parent_of-snoc m w) in
        omega (arith, z, slice_get_within (children_at u w.0) w.1 v child, children_fewer u w.0, below_smaller t m u there)

pub within_nodes : (t : Tree) → is_within_limits t ≡ true → nodes t ≤ 16777216
within_nodes t h = leb-true (nodes t) 16777216 (both _ _ (both _ _ h).0).0
