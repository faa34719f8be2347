-- Whether all texts among the tokens are short after an edit of a tree where they are.
use Rattle.std.proofs.Common.{◌≡◌, ◌≤◌, ℕ, zero, suc, Bool, true, false, ◌&&◌, ◌∷◌, [], length, Some, refl, sym, ap, ◌∙◌, arith}
use Rattle.std.specs.List.{slice_get, insert, remove}
use Rattle.at_model.specs.Trees.{Tree, Cells, Cell, Trees, Node as branch, no_cells, cell, One, Many, Empty, Filled, Holds, no_trees, tree, children, to_cells, from_cells, to_trees, from_trees}
use Rattle.at_model.specs.Paths.{Node, tree_at, cell_at, children_at}
use Rattle.at_model.specs.Edits.{changed_at, with_child, with_cell, with_node, without_child, with_one_more, tokens_short, cells_tokens_short, cell_tokens_short, trees_tokens_short}
use Rattle.at_model.proofs.Options.{both, led}
use Rattle.at_store.proofs.Counts.{of_cell}

on_left : (a b : Bool) → a ≡ true → (a && b) ≡ b
on_left a b e = ap (λ z. z && b) e

on_right : (a b : Bool) → b ≡ true → (a && b) ≡ a
on_right true b e = e
on_right false b e = refl

pub list_again : (ts : Trees) → to_trees (from_trees ts) ≡ ts
list_again no_trees = refl
list_again (tree t ts) = ap (tree t) (list_again ts)

cells_again : (cs : Cells) → to_cells (from_cells cs) ≡ cs
cells_again no_cells = refl
cells_again (cell c cs) = ap (cell c) (cells_again cs)

changed : (h : Tree → Tree) (ts : Trees) (i : ℕ) (x : Tree) → trees_tokens_short ts ≡ true → slice_get (from_trees ts) i
    ≡ Some x → trees_tokens_short (to_trees (changed_at h (from_trees ts) i)) ≡ tokens_short (h x)
changed h no_trees i x short e = absurd cc
changed h (tree t ts) zero x short e =
    let same : t ≡ x = cc in
    on_right (tokens_short (h t)) (trees_tokens_short (to_trees (from_trees ts))) (ap trees_tokens_short (list_again ts) ∙ (both _ _ short).1) ∙ ap (λ z. tokens_short (h z)) same
changed h (tree t ts) (suc i) x short e = on_left (tokens_short t) _ (both _ _ short).0 ∙ changed h ts i x (both _ _ short).1 e

inserted : (ts : Trees) (i : ℕ) (x : Tree) → trees_tokens_short ts ≡ true → i ≤ length (from_trees ts) → trees_tokens_short (to_trees (insert (from_trees ts) i x)) ≡ tokens_short x
inserted no_trees zero x short h = on_right (tokens_short x) true refl
inserted no_trees (suc i) x short h = let f : suc i ≤ 0 = h in absurd (omega arith)
inserted (tree t ts) zero x short h = on_right (tokens_short x) (trees_tokens_short (to_trees (from_trees (tree t ts)))) (ap trees_tokens_short (list_again (tree t ts)) ∙ short)
inserted (tree t ts) (suc i) x short h = let k : suc i ≤ suc (length (from_trees ts)) = h in on_left (tokens_short t) _ (both _ _ short).0 ∙ inserted ts i x (both _ _ short).1 (omega arith)

removed : (ts : Trees) (i : ℕ) → trees_tokens_short ts ≡ true → trees_tokens_short (to_trees (remove (from_trees ts) i)) ≡ true
removed no_trees zero short = refl
removed no_trees (suc i) short = refl
removed (tree t ts) zero short = ap trees_tokens_short (list_again ts) ∙ (both _ _ short).1
removed (tree t ts) (suc i) short = on_left (tokens_short t) _ (both _ _ short).0 ∙ removed ts i (both _ _ short).1

child_changed : (h : Tree → Tree) (i : ℕ) (c : Cell) (x : Tree) → cell_tokens_short c ≡ true → slice_get (children c) i ≡ Some x → cell_tokens_short (with_child h i c) ≡ tokens_short (h x)
child_changed h zero (One t) x short e = let same : t ≡ x = cc in ap (λ z. tokens_short (h z)) same
child_changed h (suc i) (One t) x short e = absurd cc
child_changed h i (Many ts) x short e = changed h ts i x short e
child_changed h i Empty x short e = absurd cc
child_changed h zero (Filled t) x short e = let same : t ≡ x = cc in ap (λ z. tokens_short (h z)) same
child_changed h (suc i) (Filled t) x short e = absurd cc
child_changed h i (Holds v) x short e = absurd cc

pub one_less : (i : ℕ) (c : Cell) → cell_tokens_short c ≡ true → cell_tokens_short (without_child i c) ≡ true
one_less i (One t) short = short
one_less i (Many ts) short = removed ts i short
one_less i Empty short = refl
one_less zero (Filled t) short = refl
one_less (suc i) (Filled t) short = short
one_less i (Holds v) short = short

cells_changed : (g : Cell → Cell) (cs : Cells) (part : ℕ) (c : Cell) → cells_tokens_short cs ≡ true → slice_get (from_cells cs) part ≡ Some c →
    (cells_tokens_short (to_cells (changed_at g (from_cells cs) part)) ≡ cell_tokens_short (g c)) × (cell_tokens_short c ≡ true)
cells_changed g no_cells part c short e = absurd cc
cells_changed g (cell d cs) zero c short e =
    let same : d ≡ c = cc in (
      on_right (cell_tokens_short (g d)) (cells_tokens_short (to_cells (from_cells cs))) (ap cells_tokens_short (cells_again cs) ∙ (both _ _ short).1) ∙ ap (λ z. cell_tokens_short (g z)) same,
      sym (ap cell_tokens_short same) ∙ (both _ _ short).0,
    )
cells_changed g (cell d cs) (suc part) c short e = let f = cells_changed g cs part c (both _ _ short).1 e in (on_left (cell_tokens_short d) _ (both _ _ short).0 ∙ f.0, f.1)

-- the change of a cell
pub cell_changed : (g : Cell → Cell) (part : ℕ) (u : Tree) (c : Cell) → tokens_short u ≡ true → cell_at u part ≡ Some c
    → (tokens_short (with_cell g part u) ≡ cell_tokens_short (g c)) × (cell_tokens_short c ≡ true)
cell_changed g part (branch k cells) c short e = cells_changed g cells part c short e

trees_short : (ts : Trees) (i : ℕ) (x : Tree) → trees_tokens_short ts ≡ true → slice_get (from_trees ts) i ≡ Some x → tokens_short x ≡ true
trees_short no_trees i x short e = absurd cc
trees_short (tree t ts) zero x short e = let same : t ≡ x = cc in sym (ap tokens_short same) ∙ (both _ _ short).0
trees_short (tree t ts) (suc i) x short e = trees_short ts i x (both _ _ short).1 e

one_short : (t : Tree) (i : ℕ) (x : Tree) → tokens_short t ≡ true → slice_get (t ∷ []) i ≡ Some x → tokens_short x ≡ true
one_short t zero x short e = let same : t ≡ x = cc in sym (ap tokens_short same) ∙ short
one_short t (suc i) x short e = absurd cc

child_short : (c : Cell) (i : ℕ) (x : Tree) → cell_tokens_short c ≡ true → slice_get (children c) i ≡ Some x → tokens_short x ≡ true
child_short (One t) i x short e = one_short t i x short e
child_short (Many ts) i x short e = trees_short ts i x short e
child_short Empty i x short e = absurd cc
child_short (Filled t) i x short e = one_short t i x short e
child_short (Holds v) i x short e = absurd cc

-- a change of the tree at a node
pub node_changed : (F : Tree → Tree) (t : Tree) (p : Node) (u : Tree) → tokens_short t ≡ true → tree_at t p ≡ Some u → (tokens_short (with_node F t p) ≡ tokens_short (F u)) × (tokens_short u ≡ true)
node_changed F t [] u short e = let same : t ≡ u = cc in (ap (λ z. tokens_short (F z)) same, sym (ap tokens_short same) ∙ short)
node_changed F t (s ∷ p) u short e =
    let (x, child, below) = led (λ v. tree_at v p) (slice_get (children_at t s.0) s.1) u e in
    let (c, here, in_it) = of_cell (cell_at t s.0) s.1 x child in
    let h = cell_changed (with_child (λ v. with_node F v p) s.1) s.0 t c short here in
    let f = node_changed F x p u (child_short c s.1 x h.1 in_it) below in
    (h.0 ∙ child_changed (λ v. with_node F v p) s.1 c x h.1 in_it ∙ f.0, f.1)

-- the change of a cell of a node
pub at_cell : (g : Cell → Cell) (part : ℕ) (t : Tree) (p : Node) (u : Tree) (c : Cell) → tokens_short t ≡ true → tree_at t p ≡ Some u → cell_at u part ≡ Some c →
    (tokens_short (with_node (with_cell g part) t p) ≡ cell_tokens_short (g c)) × (cell_tokens_short c ≡ true)
at_cell g part t p u c short found here =
    let f = node_changed (with_cell g part) t p u short found in
    let h = cell_changed g part u c f.1 here in
    (f.0 ∙ h.0, h.1)

pub one_more : (t x : Tree) (part index : ℕ) (p : Node) (u : Tree) (ts : Trees) → tokens_short t ≡ true → tree_at t p ≡ Some u → cell_at u part ≡ Some (Many ts) → index ≤ length (from_trees ts) →
    tokens_short (with_node (with_cell (with_one_more x index) part) t p) ≡ tokens_short x
one_more t x part index p u ts short found here bound = let f = at_cell (with_one_more x index) part t p u (Many ts) short found here in f.0 ∙ inserted ts index x f.1 bound
