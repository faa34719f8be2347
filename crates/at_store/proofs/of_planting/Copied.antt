-- The copy of the tree below a number, level by level.
use Rattle.std.proofs.Common.{◌≡◌, ℕ, zero, suc, ◌+◌, ◌-◌, ◌<◌, [], ◌∷◌, ◌++◌, List, Option, Some, None, length, take, get_or, refl, sym, ap, ◌∙◌, arith, add-one}
use Rattle.std.proofs.Math.Seq.{take-suc}
use Rattle.std.proofs.lemmas.List.{map-append}
use Rattle.std.specs.Prelude.{map}
use Rattle.std.specs.List.{slice_get}
use Rattle.at_model.specs.Trees.{Tree, Cell, Node as branch, no_cells, cell, Many, One, Filled, tree, to_cells, to_trees}
use Rattle.at_tree.specs.TreeView.{see_tree, see_cell, tree_view, cell_view}
use Rattle.at_class.specs.declared.tree.Tree.{Tree as TreeValue}
use Rattle.at_class.specs.declared.tree.Cell.TheOpen.{Cell-F}
use Rattle.at_class.specs.declared.tree.Cell.TheVariants as value
use Rattle.at_class.specs.declared.tree.Cell.TheFolds.{fold-roll-Cell}
use Rattle.at_store.specs.Numbers.{relabel, relabel_cells, relabel_cell, relabel_trees}
use Rattle.at_store.specs.Memory.{Info, Kept, Kids, Token_of, Plain, List_of, Optional, cells_in, class_in}
use Rattle.at_store.specs.Grown.{grown, grown_cell, grown_node, shown_below}

module _ (f : ℕ → ℕ) (deeper : ℕ → Tree) where
  trees_shown : (ks : List ℕ) → relabel_trees f (to_trees (map deeper ks)) ≡ to_trees (map (λ k. relabel f (deeper k)) ks)
  trees_shown [] = refl
  trees_shown (k ∷ ks) = ap (tree (relabel f (deeper k))) (trees_shown ks)

  cell_shown : (c : Kept) → relabel_cell f (grown_cell deeper c) ≡ grown_cell (λ k. relabel f (deeper k)) c
  cell_shown (Kids Plain []) = refl
  cell_shown (Kids Plain (k ∷ ks)) = refl
  cell_shown (Kids List_of ks) = ap Many (trees_shown ks)
  cell_shown (Kids Optional []) = refl
  cell_shown (Kids Optional (k ∷ ks)) = refl
  cell_shown (Token_of v) = refl

  cells_shown : (cs : List Kept) → relabel_cells f (to_cells (map (grown_cell deeper) cs)) ≡ to_cells (map (grown_cell (λ k. relabel f (deeper k))) cs)
  cells_shown [] = refl
  cells_shown (c ∷ cs) = λ i. cell (cell_shown c i) (cells_shown cs i)

  node_shown : (k : ℕ) (o : Option Info) → relabel f (grown_node deeper k o) ≡ branch (f k) (to_cells (map (grown_cell (λ j. relabel f (deeper j))) (cells_in o)))
  node_shown k None = refl
  node_shown k (Some i) = ap (branch (f k)) (cells_shown i.cells)

module _ (memory : ℕ → Option Info) where
  pub no_level : (k : ℕ) → shown_below memory 0 k ≡ branch (class_in memory k) no_cells
  unfolding grown
  no_level k = refl

  a_level : (levels k : ℕ) → shown_below memory (suc levels) k ≡ branch (class_in memory k) (to_cells (map (grown_cell (shown_below memory levels)) (cells_in (memory k))))
  unfolding grown
  a_level levels k = node_shown (class_in memory) (grown memory levels) k (memory k)

  pub level_above : (levels k : ℕ) → 0 < levels → shown_below memory levels k ≡ branch (class_in memory k) (to_cells (map (grown_cell (shown_below memory (levels - 1))) (cells_in (memory k))))
  level_above zero k h = absurd (omega arith)
  level_above (suc levels) k h = let e : levels ≡ suc levels - 1 = omega arith in a_level levels k ∙
      ap (λ n. branch (class_in memory k) (to_cells (map (grown_cell (shown_below memory n)) (cells_in (memory k))))) e

pub filled_first : (deeper : ℕ → Tree) (ks : List ℕ) (k : ℕ) → slice_get ks 0 ≡ Some k → grown_cell deeper (Kids Optional ks) ≡ Filled (deeper k)
filled_first deeper [] k e = absurd cc
filled_first deeper (j ∷ ks) k e = let same : j ≡ k = cc in ap (λ x. Filled (deeper x)) same

pub one_first : (deeper : ℕ → Tree) (ks : List ℕ) (k : ℕ) → slice_get ks 0 ≡ Some k → grown_cell deeper (Kids Plain ks) ≡ One (deeper k)
one_first deeper [] k e = absurd cc
one_first deeper (j ∷ ks) k e = let same : j ≡ k = cc in ap (λ x. One (deeper x)) same

pub made_one : (u : TreeValue) → cell_view (value.One u) ≡ One (tree_view u)
made_one u = ap cell_view (sym (value.rolls-One u)) ∙ fold-roll-Cell Cell Tree see_cell see_tree (Cell-F.One u)

-- one tree more
pub copied_on : (deeper : ℕ → Tree) (old new : List TreeValue) (t : TreeValue) (ks : List ℕ) (i k : ℕ) → i < length ks →
    k ≡ get_or ks i k → new ≡ old ++ t ∷ [] → map tree_view old ≡ map deeper (take i ks) → tree_view t ≡ deeper k →
    map tree_view new ≡ map deeper (take (i + 1) ks)
copied_on deeper old new t ks i k less is grew before same =
    let e : take (i + 1) ks ≡ take i ks ++ k ∷ [] = rw (add-one, take-suc ks i k less, ← is) refl in
    ap (map tree_view) grew ∙ map-append tree_view old (t ∷ []) ∙ ap (λ x. x ++ tree_view t ∷ []) before ∙
    ap (λ x. map deeper (take i ks) ++ x ∷ []) same ∙ sym (map-append deeper (take i ks) (k ∷ [])) ∙ ap (map deeper) (sym e)
