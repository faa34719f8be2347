-- A node stands less deep than its tree is deep.
use Rattle.std.proofs.Common.{◌≡◌, ℕ, zero, suc, ◌<◌, ◌≤◌, max, true, ◌&&◌, nat_le, [], ◌∷◌, length, Option, Some, None, refl, subst, arith}
use Rattle.std.specs.List.{slice_get}
use Rattle.std.proofs.lemmas.Bool.{leb-true}
use Rattle.at_model.specs.Trees.{Tree, Cells, no_cells, cell, Cell, One, Many, Empty, Filled, Holds, Trees, no_trees, tree, cells_of, from_cells, from_trees, children, depth, cells_depth, cell_depth, trees_depth, nodes}
use Rattle.at_model.specs.Trees as trees
use Rattle.at_model.specs.Terms.{max_depth}
use Rattle.at_model.specs.Paths.{Node, children_at, tree_at}
use Rattle.at_model.specs.Edits.{is_within_limits, max_nodes, tokens_short}
use Rattle.at_model.proofs.Options.{led, both}

among_trees : (ts : Trees) (i : ℕ) (u : Tree) → slice_get (from_trees ts) i ≡ Some u → depth u ≤ trees_depth ts
among_trees no_trees i u e = absurd cc
among_trees (tree t ts) zero u e = let same : t ≡ u = cc in subst (λ x. depth x ≤ max (depth t) (trees_depth ts)) same (omega arith)
among_trees (tree t ts) (suc i) u e = let below = among_trees ts i u e in omega (arith, below)

alone : (t u : Tree) (i : ℕ) → slice_get (t ∷ []) i ≡ Some u → depth u ≤ depth t
alone t u zero e = let same : t ≡ u = cc in subst (λ x. depth x ≤ depth t) same (omega arith)
alone t u (suc i) e = absurd cc

in_cell : (c : Cell) (i : ℕ) (u : Tree) → slice_get (children c) i ≡ Some u → depth u ≤ cell_depth c
in_cell (One t) i u e = alone t u i e
in_cell (Many ts) i u e = among_trees ts i u e
in_cell Empty i u e = absurd cc
in_cell (Filled t) i u e = alone t u i e
in_cell (Holds v) i u e = absurd cc

among_cells : (cs : Cells) (part : ℕ) (c : Cell) → slice_get (from_cells cs) part ≡ Some c → cell_depth c ≤ cells_depth cs
among_cells no_cells part c e = absurd cc
among_cells (cell d cs) zero c e = let same : d ≡ c = cc in subst (λ x. cell_depth x ≤ max (cell_depth d) (cells_depth cs)) same (omega arith)
among_cells (cell d cs) (suc part) c e = let below = among_cells cs part c e in omega (arith, below)

in_children : (o : Option Cell) (i : ℕ) (u : Tree) → slice_get (elim o [ None ↦ [] | Some c ↦ children c ]) i ≡ Some u → (c : Cell) × (o ≡ Some c) × (slice_get (children c) i ≡ Some u)
in_children None i u e = absurd cc
in_children (Some c) i u e = (c, refl, e)

child_depth : (t : Tree) (part i : ℕ) (u : Tree) → slice_get (children_at t part) i ≡ Some u → depth u < depth t
child_depth (trees.Node class cells) part i u e =
    let (c, is, f) = in_children (slice_get (from_cells cells) part) i u e in
    let a = in_cell c i u f in
    let b = among_cells cells part c is in
    omega (arith, a, b)

pub node_depth : (t : Tree) (n : Node) (u : Tree) → tree_at t n ≡ Some u → length n < depth t
node_depth (trees.Node class cells) [] u e = omega arith
node_depth t (s ∷ ss) u e =
    let (v, child, rest) = led (λ v. tree_at v ss) (slice_get (children_at t s.0) s.1) u e in
    let a = node_depth v ss u rest in
    let b = child_depth t s.0 s.1 v child in
    omega (arith, a, b)

below_limit : (a d limit : ℕ) → a < d → d ≤ limit → a ≤ limit
below_limit a d limit h k = omega (arith, h, k)

pub within_depth : (t : Tree) (n : Node) (u : Tree) → is_within_limits t ≡ true → tree_at t n ≡ Some u → length n ≤ max_depth
within_depth t n u within found =
    let (sizes, short) = both (nat_le (nodes t) max_nodes && nat_le (depth t) max_depth) (tokens_short t) within in
    let (few, deep) = both (nat_le (nodes t) max_nodes) (nat_le (depth t) max_depth) sizes in
    below_limit (length n) (depth t) max_depth (node_depth t n u found) (leb-true (depth t) max_depth deep)
