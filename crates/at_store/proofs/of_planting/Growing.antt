-- A tree that is stored grows again from its number.
use Rattle.std.proofs.Common.{◌≡◌, ℕ, zero, suc, ◌<◌, [], ◌∷◌, length, Option, Some, None, refl, sym, ap, ◌∙◌, arith, option_and_then}
use Rattle.std.specs.Prelude.{map}
use Rattle.std.specs.List.{slice_get}
use Rattle.at_model.specs.Trees.{Tree, Cells, Cell, Trees, Node as branch, no_cells, cell, One, Many, Empty, Filled, Holds, no_trees, tree, class_of, children, to_cells, from_cells, to_trees, from_trees}
use Rattle.at_model.specs.Paths.{tree_at}
use Rattle.at_model.proofs.of_edits.Untouched.{in_cell as kids}
use Rattle.at_store.specs.Memory.{Info, kept, Place, top, Stored, IsShallow, Keeps}
use Rattle.at_store.proofs.of_planting.Composed.{child_stored}
use Rattle.at_store.specs.Grown.{grown, grown_cell, grown_node}

module _ (deeper : ℕ → Tree) where
  trees_again : (ts : Trees) → ((i : ℕ) (x : Tree) → slice_get (from_trees ts) i ≡ Some x → deeper (class_of x) ≡ x) → to_trees (map deeper (map class_of (from_trees ts))) ≡ ts
  trees_again no_trees h = refl
  trees_again (tree t ts) h = λ i. tree (h 0 t refl i) (trees_again ts (λ j. h (suc j)) i)

  cell_again : (c : Cell) → ((i : ℕ) (x : Tree) → slice_get (children c) i ≡ Some x → deeper (class_of x) ≡ x) → grown_cell deeper (kept c) ≡ c
  cell_again (One t) h = ap One (h 0 t refl)
  cell_again (Many ts) h = ap Many (trees_again ts h)
  cell_again Empty h = refl
  cell_again (Filled t) h = ap Filled (h 0 t refl)
  cell_again (Holds v) h = refl

  cells_again : (cs : Cells) → ((part i : ℕ) (x : Tree) → slice_get (kids (slice_get (from_cells cs) part)) i ≡ Some x
      → deeper (class_of x) ≡ x) → to_cells (map (grown_cell deeper) (map kept (from_cells cs))) ≡ cs
  cells_again no_cells h = refl
  cells_again (cell c cs) h = λ i. cell (cell_again c (h 0) i) (cells_again cs (λ part. h (suc part)) i)

pub grown-stored : (memory : ℕ → Option Info) (place : Place) (levels : ℕ) (s : Tree) → Stored memory place s → IsShallow levels s → grown memory levels (class_of s) ≡ s
unfolding grown
grown-stored memory place zero s h low = let f = low [] s refl in absurd (omega arith)
grown-stored memory place (suc levels) (branch k cells) h low =
    let root = h [] (branch k cells) refl in
    let again : (part i : ℕ) (x : Tree) → slice_get (kids (slice_get (from_cells cells) part)) i ≡ Some x → grown memory levels (class_of x) ≡ x = λ part i x child.
    grown-stored memory (Some (k, part), i) levels x (child_stored memory place (branch k cells) (part, i) x h child)
    (λ n u is. let f : suc (length n) < suc levels = low ((part, i) ∷ n) u (ap (option_and_then (λ v. tree_at v n)) child ∙ is) in omega arith) in
    ap (grown_node (grown memory levels) k) root.is ∙ ap (branch k) (cells_again (grown memory levels) cells again)

class-node : (deeper : ℕ → Tree) (k : ℕ) (o : Option Info) → class_of (grown_node deeper k o) ≡ k
class-node deeper k None = refl
class-node deeper k (Some i) = refl

pub class-grown : (memory : ℕ → Option Info) (levels k : ℕ) → class_of (grown memory levels k) ≡ k
unfolding grown
class-grown memory zero k = refl
class-grown memory (suc levels) k = class-node (grown memory levels) k (memory k)

-- a tree that is kept grows again from its root's number
pub grown_kept : (memory : ℕ → Option Info) (s : Tree) (root : ℕ) → Keeps memory s None → class_of s ≡ root → grown memory 512 root ≡ s
grown_kept memory s root h e = ap (grown memory 512) (sym e) ∙ grown-stored memory top 512 s h.stored h.shallow
