-- How many nodes a tree has after an edit.
use Rattle.std.proofs.Common.{◌≡◌, ℕ, zero, suc, ◌+◌, ◌≤◌, [], ◌∷◌, length, Option, Some, None, refl, sym, ap, ◌∙◌, arith}
use Rattle.std.specs.List.{slice_get, insert, remove}
use Rattle.at_model.specs.Trees.{Tree, Cells, Cell, Trees, Node as branch, no_cells, cell, One, Many, Empty, Filled, Holds, no_trees, tree, children, to_cells, from_cells, to_trees, from_trees, nodes, cells_nodes, cell_nodes, trees_nodes}
use Rattle.at_model.specs.Trees as trees
use Rattle.at_model.specs.Paths.{Node, tree_at, cell_at, children_at, parent_of}
use Rattle.at_model.specs.Edits.{Set, Put, Drop, Insert, Token, changed_at, with_child, with_cell, with_node, without_child, with_one_more, left_by}
use Rattle.at_model.proofs.Options.{led}
use Rattle.at_model.proofs.of_edits.Moving.{Way}
use Rattle.at_model.proofs.of_edits.Surviving.{parent_is}
use Rattle.at_model.proofs.WithinTree.{tree_at-snoc}
use Rattle.at_model.proofs.of_edits.Untouched.{in_cell as kids}

-- a cell holds a child
pub of_cell : (o : Option Cell) (i : ℕ) (y : Tree) → slice_get (kids o) i ≡ Some y → (c : Cell) × (o ≡ Some c) × (slice_get (children c) i ≡ Some y)
of_cell None i y e = absurd cc
of_cell (Some c) i y e = (c, refl, e)

again : (ts : Trees) → trees_nodes (to_trees (from_trees ts)) ≡ trees_nodes ts
again no_trees = refl
again (tree t ts) = ap (λ n. nodes t + n) (again ts)

cells_again : (cs : Cells) → cells_nodes (to_cells (from_cells cs)) ≡ cells_nodes cs
cells_again no_cells = refl
cells_again (cell c cs) = ap (λ n. cell_nodes c + n) (cells_again cs)

changed : (h : Tree → Tree) (ts : Trees) (i : ℕ) (x : Tree) → slice_get (from_trees ts) i ≡ Some x → trees_nodes (to_trees (changed_at h (from_trees ts) i)) + nodes x ≡ trees_nodes ts + nodes (h x)
changed h no_trees i x e = absurd cc
changed h (tree t ts) zero x e = let same : t ≡ x = cc in let f = again ts in let g : nodes (h t) ≡ nodes (h x) = ap (λ z. nodes (h z)) same in let k : nodes t ≡ nodes x = ap nodes same in omega arith
changed h (tree t ts) (suc i) x e = let f = changed h ts i x e in omega arith

inserted : (ts : Trees) (i : ℕ) (new : Tree) → i ≤ length (from_trees ts) → trees_nodes (to_trees (insert (from_trees ts) i new)) ≡ trees_nodes ts + nodes new
inserted no_trees zero new h = omega arith
inserted no_trees (suc i) new h = let f : suc i ≤ 0 = h in absurd (omega arith)
inserted (tree t ts) zero new h = let f = again ts in omega arith
inserted (tree t ts) (suc i) new h = let k : suc i ≤ suc (length (from_trees ts)) = h in let f = inserted ts i new (omega arith) in omega arith

removed : (ts : Trees) (i : ℕ) (x : Tree) → slice_get (from_trees ts) i ≡ Some x → trees_nodes (to_trees (remove (from_trees ts) i)) + nodes x ≡ trees_nodes ts
removed no_trees i x e = absurd cc
removed (tree t ts) zero x e = let same : t ≡ x = cc in let f = again ts in let k : nodes t ≡ nodes x = ap nodes same in omega arith
removed (tree t ts) (suc i) x e = let f = removed ts i x e in omega arith

child_changed : (h : Tree → Tree) (i : ℕ) (c : Cell) (x : Tree) → slice_get (children c) i ≡ Some x → cell_nodes (with_child h i c) + nodes x ≡ cell_nodes c + nodes (h x)
child_changed h zero (One t) x e = let same : t ≡ x = cc in let g : nodes (h t) ≡ nodes (h x) = ap (λ z. nodes (h z)) same in let k : nodes t ≡ nodes x = ap nodes same in omega arith
child_changed h (suc i) (One t) x e = absurd cc
child_changed h i (Many ts) x e = changed h ts i x e
child_changed h i Empty x e = absurd cc
child_changed h zero (Filled t) x e = let same : t ≡ x = cc in let g : nodes (h t) ≡ nodes (h x) = ap (λ z. nodes (h z)) same in let k : nodes t ≡ nodes x = ap nodes same in omega arith
child_changed h (suc i) (Filled t) x e = absurd cc
child_changed h i (Holds v) x e = absurd cc

child_removed : (i : ℕ) (c : Cell) (x : Tree) → ((t : Tree) → c ≡ One t → ⊥) → slice_get (children c) i ≡ Some x → cell_nodes (without_child i c) + nodes x ≡ cell_nodes c
child_removed i (One t) x n e = absurd (n t refl)
child_removed i (Many ts) x n e = removed ts i x e
child_removed i Empty x n e = absurd cc
child_removed zero (Filled t) x n e = let same : t ≡ x = cc in let k : nodes t ≡ nodes x = ap nodes same in omega arith
child_removed (suc i) (Filled t) x n e = absurd cc
child_removed i (Holds v) x n e = absurd cc

cells_changed : (g : Cell → Cell) (cs : Cells) (part : ℕ) (c : Cell) → slice_get (from_cells cs) part ≡ Some c
    → cells_nodes (to_cells (changed_at g (from_cells cs) part)) + cell_nodes c ≡ cells_nodes cs + cell_nodes (g c)
cells_changed g no_cells part c e = absurd cc
cells_changed g (cell d cs) zero c e = let same : d ≡ c = cc in let f = cells_again cs in
    let h : cell_nodes (g d) ≡ cell_nodes (g c) = ap (λ z. cell_nodes (g z)) same in
    let k : cell_nodes d ≡ cell_nodes c = ap cell_nodes same in omega arith
cells_changed g (cell d cs) (suc part) c e = let f = cells_changed g cs part c e in omega arith

cell_changed : (g : Cell → Cell) (part : ℕ) (u : Tree) (c : Cell) → cell_at u part ≡ Some c → nodes (with_cell g part u) + cell_nodes c ≡ nodes u + cell_nodes (g c)
cell_changed g part (branch k cells) c e = let f = cells_changed g cells part c e in omega arith

-- a change of the tree at a node
pub node_changed : (F : Tree → Tree) (t : Tree) (p : Node) (u : Tree) → tree_at t p ≡ Some u → nodes (with_node F t p) + nodes u ≡ nodes t + nodes (F u)
node_changed F t [] u e = let same : t ≡ u = cc in let f : nodes (F t) ≡ nodes (F u) = ap (λ z. nodes (F z)) same in let k : nodes t ≡ nodes u = ap nodes same in omega arith
node_changed F t (s ∷ p) u e =
    let (x, child, below) = led (λ v. tree_at v p) (slice_get (children_at t s.0) s.1) u e in
    let (c, here, in_it) = of_cell (cell_at t s.0) s.1 x child in
    let f = node_changed F x p u below in
    let g = child_changed (λ v. with_node F v p) s.1 c x in_it in
    let h = cell_changed (with_child (λ v. with_node F v p) s.1) s.0 t c here in
    omega arith

at_cell : (g : Cell → Cell) (part : ℕ) (t : Tree) (p : Node) (u : Tree) (c : Cell) → tree_at t p ≡ Some u
    → cell_at u part ≡ Some c → nodes (with_node (with_cell g part) t p) + cell_nodes c ≡ nodes t + cell_nodes (g c)
at_cell g part t p u c found here = let f = node_changed (with_cell g part) t p u found in let h = cell_changed g part u c here in omega arith

pub count_set : (t new : Tree) (node : Node) (x : Tree) → tree_at t node ≡ Some x → nodes (left_by t (Set node new)) + nodes x ≡ nodes t + nodes new
count_set t new node x found = node_changed (λ u. new) t node x found

pub count_put : (t new : Tree) (node : Node) (part : ℕ) (u : Tree) → tree_at t node ≡ Some u → cell_at u part ≡ Some Empty → nodes (left_by t (Put node part new)) ≡ nodes t + nodes new
count_put t new node part u found here = let f = at_cell (λ c. Filled new) part t node u Empty found here in omega arith

pub count_insert : (t new : Tree) (node : Node) (part index : ℕ) (u : Tree) (ts : Trees) → tree_at t node ≡ Some u
    → cell_at u part ≡ Some (Many ts) → index ≤ length (from_trees ts)
    → nodes (left_by t (Insert node part index new)) ≡ nodes t + nodes new
count_insert t new node part index u ts found here bound = let f = at_cell (with_one_more new index) part t node u (Many ts) found here in let g = inserted ts index new bound in omega arith

pub count_token : (t : Tree) (node : Node) (part : ℕ) (old new : trees.Token) (u : Tree) → tree_at t node ≡ Some u
    → cell_at u part ≡ Some (Holds old) → nodes (left_by t (Token node part new)) ≡ nodes t
count_token t node part old new u found here = let f = at_cell (λ c. Holds new) part t node u (Holds old) found here in omega arith

pub count_drop : (t : Tree) (node p : Node) (place : Way) (u x : Tree) (c : Cell) → parent_of node ≡ Some (p, place)
    → tree_at t node ≡ Some x → tree_at t p ≡ Some u → cell_at u place.0 ≡ Some c → ((t : Tree) → c ≡ One t → ⊥)
    → nodes (left_by t (Drop node)) + nodes x ≡ nodes t
count_drop t node p place u x c parent there found here plain =
    let child : slice_get (children c) place.1 ≡ Some x = sym (ap (λ o. slice_get (kids o) place.1) here)
    ∙ sym (tree_at-snoc t p place u found) ∙ ap (tree_at t) (sym (parent_is node (p, place) parent)) ∙ there in
    let left : left_by t (Drop node) ≡ with_node (with_cell (without_child place.1) place.0) t p =
    ap (λ (o : Option (Node × Way)). elim o
    [ None ↦ t | Some p ↦ with_node (with_cell (without_child p.1.1) p.1.0) t p.0 ]) parent in
    let f = at_cell (without_child place.1) place.0 t p u c found here in
    let g = child_removed place.1 c x plain child in
    let h = ap nodes left in
    omega arith
