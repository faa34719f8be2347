-- Over a commit each node keeps its class; and a tree of numbers is as deep and as large as that of its classes.
use Rattle.std.proofs.Common.{◌≡◌, ℕ, ◌+◌, ◌≤◌, Bool, true, false, cond, max, List, Option, Some, None, refl, sym, ap, ◌∙◌, subst}
use Rattle.at_model.specs.Trees.{Tree, Cells, Cell, Trees, Node as branch, no_cells, cell, One, Many, Empty, Filled, Holds, no_trees, tree, class_of, depth, cells_depth, cell_depth, trees_depth, nodes, cells_nodes, cell_nodes, trees_nodes}
use Rattle.at_model.specs.Edits.{Edit, left_by}
use Rattle.at_store.specs.Numbers.{relabel, relabel_cells, relabel_cell, relabel_trees, relabel_edit}
use Rattle.at_store.specs.Memory.{Info, Kept, Place, Stored, IsShallow, class_in, rewritten, placed, renumbered}
use Rattle.at_store.proofs.Relabelled.{relabelled-left}
use Rattle.at_store.proofs.of_planting.Planted.{relabel_same}
use Rattle.at_store.proofs.Slots.{class_at, class_renumbered, class_rewritten, class_placed}
use Rattle.at_store.proofs.Depths.{shallow}

-- the changes of a commit keep the class
pub class_changed : (behind : List ℕ) (from n : ℕ) (place : Place) (u part : ℕ) (c : Kept) (k : ℕ) (o : Option Info)
    → class_at (renumbered behind from k (placed n place k (rewritten u part c k o))) ≡ class_at o
class_changed behind from n place u part c k o =
    class_renumbered behind from k (placed n place k (rewritten u part c k o)) ∙ class_placed n place k (rewritten u part c k o) ∙ class_rewritten u part c k o

module _ (memory later : ℕ → Option Info) (gone : ℕ → Bool) (change : ℕ → Option Info → Option Info) (keeps : (k : ℕ) (o : Option Info) → class_at (change k o) ≡ class_at o)
    (changes : (k : ℕ) → later k ≡ cond (gone k) None (change k (memory k))) where
  class_left : (k : ℕ) (i : Info) → later k ≡ Some i → class_in later k ≡ class_in memory k
  class_left k i e = ap class_at (changes k) ∙ by_test (gone k) (sym (changes k) ∙ e)
    where
      by_test : (b : Bool) → cond b None (change k (memory k)) ≡ Some i → class_at (cond b None (change k (memory k))) ≡ class_at (memory k)
      by_test true e = absurd cc
      by_test false e = keeps k (memory k)

  pub classes_stay : (place : Place) (s : Tree) → Stored later place s → relabel (class_in later) s ≡ relabel (class_in memory) s
  classes_stay place s h = relabel_same (class_in later) (class_in memory) s (λ n v is. class_left (class_of v) _ (h n v is).is)

module _ (f : ℕ → ℕ) where
  mutual
    pub depth_relabelled : (t : Tree) → depth (relabel f t) ≡ depth t
    depth_relabelled (branch k cells) = ap (λ n. 1 + n) (cells_deep cells)

    cells_deep : (cs : Cells) → cells_depth (relabel_cells f cs) ≡ cells_depth cs
    cells_deep no_cells = refl
    cells_deep (cell c cs) = λ i. max (cell_deep c i) (cells_deep cs i)

    cell_deep : (c : Cell) → cell_depth (relabel_cell f c) ≡ cell_depth c
    cell_deep (One t) = depth_relabelled t
    cell_deep (Many ts) = trees_deep ts
    cell_deep Empty = refl
    cell_deep (Filled t) = depth_relabelled t
    cell_deep (Holds v) = refl

    trees_deep : (ts : Trees) → trees_depth (relabel_trees f ts) ≡ trees_depth ts
    trees_deep no_trees = refl
    trees_deep (tree t ts) = λ i. max (depth_relabelled t i) (trees_deep ts i)

  mutual
    pub nodes_relabelled : (t : Tree) → nodes (relabel f t) ≡ nodes t
    nodes_relabelled (branch k cells) = ap (λ n. 1 + n) (cells_counted cells)

    cells_counted : (cs : Cells) → cells_nodes (relabel_cells f cs) ≡ cells_nodes cs
    cells_counted no_cells = refl
    cells_counted (cell c cs) = λ i. cell_counted c i + cells_counted cs i

    cell_counted : (c : Cell) → cell_nodes (relabel_cell f c) ≡ cell_nodes c
    cell_counted (One t) = nodes_relabelled t
    cell_counted (Many ts) = trees_counted ts
    cell_counted Empty = refl
    cell_counted (Filled t) = nodes_relabelled t
    cell_counted (Holds v) = refl

    trees_counted : (ts : Trees) → trees_nodes (relabel_trees f ts) ≡ trees_nodes ts
    trees_counted no_trees = refl
    trees_counted (tree t ts) = λ i. nodes_relabelled t i + trees_counted ts i

  -- the depth of the tree of classes limits the tree of numbers
  pub shallow_numbers : (h : ℕ) (s : Tree) → depth (relabel f s) ≤ h → IsShallow h s
  shallow_numbers h s low = shallow h s (subst (λ d. d ≤ h) (depth_relabelled s) low)
