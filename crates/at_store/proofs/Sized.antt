-- How many nodes a memory tells of, and how many a tree has.
use Rattle.std.proofs.Common.{◌≡◌, ◌≤◌, ◌<◌, ℕ, zero, suc, ◌+◌, ◌-◌, List, [], ◌∷◌, ◌++◌, Option, Some, None, refl, sym, ap, ◌∙◌, arith, map}
use Rattle.std.specs.List.{slice_get}
use Rattle.at_model.specs.Trees.{Tree, Cells, Cell, Node as branch, no_cells, cell, One, Many, Empty, Filled, Holds, class_of, children, from_cells, from_trees, to_trees, nodes, cells_nodes, cell_nodes, trees_nodes, depth}
use Rattle.at_model.specs.Paths.{Node, tree_at}
use Rattle.at_model.proofs.of_edits.Untouched.{in_cell as kids}
use Rattle.at_model.proofs.WithinTree.{tree_at-snoc}
use Rattle.at_store.specs.Memory.{Info, Keeps, kept, cells_in, numbers_in}
use Rattle.at_store.specs.Told.{kids_size, slots_size, size_told}
use Rattle.at_store.proofs.Depths.{child_below, one_at_least}
use Rattle.at_store.proofs.ShortTokens.{list_again}

pub size_none : (memory : ℕ → Option Info) (levels k : ℕ) → levels ≡ 0 → size_told memory levels k ≡ 1
unfolding size_told
size_none memory zero k e = refl
size_none memory (suc levels) k e = absurd (omega (arith, e))

pub size_above : (memory : ℕ → Option Info) (levels k : ℕ) → 0 < levels → size_told memory levels k ≡ 1 + slots_size (size_told memory (levels - 1)) (cells_in (memory k))
unfolding size_told
size_above memory zero k h = absurd (omega (arith, h))
size_above memory (suc levels) k h = let e : suc levels - 1 ≡ levels = omega arith in ap (λ z. 1 + slots_size (size_told memory z) (cells_in (memory k))) (sym e)

module _ (f : ℕ → ℕ) where
  kids_sum : (ts : List Tree) → ((i : ℕ) (y : Tree) → slice_get ts i ≡ Some y → f (class_of y) ≡ nodes y) → kids_size f (map class_of ts) ≡ trees_nodes (to_trees ts)
  kids_sum [] h = refl
  kids_sum (t ∷ ts) h = let g = h 0 t refl in let k = kids_sum ts (λ i y e. h (suc i) y e) in omega (arith, g, k)

  cell_sum : (c : Cell) → ((i : ℕ) (y : Tree) → slice_get (children c) i ≡ Some y → f (class_of y) ≡ nodes y) → kids_size f (numbers_in (Some (kept c))) ≡ cell_nodes c
  cell_sum (One t) h = let g = h 0 t refl in omega (arith, g)
  cell_sum (Many ts) h = kids_sum (from_trees ts) h ∙ ap trees_nodes (list_again ts)
  cell_sum Empty h = refl
  cell_sum (Filled t) h = let g = h 0 t refl in omega (arith, g)
  cell_sum (Holds v) h = refl

  cells_sum : (cs : Cells) → ((part i : ℕ) (y : Tree) → slice_get (kids (slice_get (from_cells cs) part)) i ≡ Some y
      → f (class_of y) ≡ nodes y) → slots_size f (map kept (from_cells cs)) ≡ cells_nodes cs
  cells_sum no_cells h = refl
  cells_sum (cell c cs) h = let g = cell_sum c (λ i y e. h 0 i y e) in let k = cells_sum cs (λ part i y e. h (suc part) i y e) in omega (arith, g, k)

module _ (memory : ℕ → Option Info) (s : Tree) (h : Keeps memory s None) where
  pub size_is : (levels : ℕ) (n : Node) (u : Tree) → tree_at s n ≡ Some u → depth u ≤ levels → size_told memory levels (class_of u) ≡ nodes u
  unfolding size_told
  size_is zero n u is low = let g = one_at_least u in absurd (omega (arith, g, low))
  size_is (suc levels) n (branch k cells) is low =
      let there = h.stored n (branch k cells) is in
      ap (λ o. 1 + slots_size (size_told memory levels) (cells_in o)) there.is ∙
      ap (λ z. 1 + z) (cells_sum (size_told memory levels) cells (λ part i y child.
      (let g : suc (depth y) ≤ depth (branch k cells) = child_below (branch k cells) y (part, i) child in
      size_is levels (n ++ (part, i) ∷ []) y (tree_at-snoc s n (part, i) (branch k cells) is ∙ child) (omega (arith, g, low)))))
