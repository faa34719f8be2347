-- Rows of different lengths aren't the same.
use Rattle.std.proofs.Common.{◌≡◌, suc, List, [], ◌∷◌, length, map, refl, ap, ◌∙◌}
use Rattle.std.specs.Prelude.{Bool, true, false, ◌&&◌}
use Rattle.at_model.specs.SyntaxTrees.{to_cells, to_trees, tree_eq, cell_eq, cells_eq, trees_eq}
use Rattle.at_class.specs.TreeView.{tree_view, cell_view}
use Rattle.at_class.specs.declared.tree.Tree.{Tree}
use Rattle.at_class.specs.declared.tree.Cell.{Cell}

none : (b : Bool) → (b && false) ≡ false
none true = refl
none false = refl

pub other_cells : (cs ds : List Cell) → (length cs ≡ length ds → ⊥) → cells_eq (to_cells (map cell_view cs)) (to_cells (map cell_view ds)) ≡ false
other_cells [] [] other = absurd (other refl)
other_cells [] (d ∷ ds) other = refl
other_cells (c ∷ cs) [] other = refl
other_cells (c ∷ cs) (d ∷ ds) other = ap (λ b. cell_eq (cell_view c) (cell_view d) && b) (other_cells cs ds (λ e. other (ap suc e))) ∙ none _

pub other_trees : (ts us : List Tree) → (length ts ≡ length us → ⊥) → trees_eq (to_trees (map tree_view ts)) (to_trees (map tree_view us)) ≡ false
other_trees [] [] other = absurd (other refl)
other_trees [] (u ∷ us) other = refl
other_trees (t ∷ ts) [] other = refl
other_trees (t ∷ ts) (u ∷ us) other = ap (λ b. tree_eq (tree_view t) (tree_view u) && b) (other_trees ts us (λ e. other (ap suc e))) ∙ none _
