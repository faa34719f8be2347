-- Loops over the cells and the lists of trees.
use Rattle.std.proofs.Common.{◌≡◌, ℕ, ◌+◌, ◌<◌, ◌≤◌, List, [], ◌∷◌, ◌++◌, length, take, drop, get_or, map, refl, ap, sym, ◌∙◌, arith, add-one, take_all, suc}
use Rattle.std.proofs.Math.Seq.{drop-cons}
use Rattle.std.proofs.lemmas.List.{map_more, drop_all, length-map}
use Rattle.std.specs.Prelude.{Bool, true, false, ◌&&◌, max}
use Rattle.at_model.specs.Classes.{Classes, Component, fits, parts}
use Rattle.at_model.specs.Trees.{Tree, Cell, Cells, Node, fixed_stand, to_cells, to_trees, nodes, cell_nodes, cells_nodes, trees_nodes, depth, cell_depth, cells_depth, trees_depth, conforms, cell_conforms, cells_conform, trees_conform}
use Rattle.at_model.proofs.Options.{and_false, and_off}
use Rattle.at_class.specs.declared.part.Part.{Part}
use Rattle.at_class.specs.View.{part_view}
use Rattle.at_class.specs.TreeView.{see_tree, see_cell, tree_view, cell_view}
use Rattle.at_class.specs.declared.tree.Tree.{Tree as TreeValue, out-Tree}
use Rattle.at_class.specs.declared.tree.Cell.{Cell as CellValue}
use Rattle.at_class.specs.declared.tree.Cell.TheFolds.{fold_out-Tree}
use Rattle.at_tree.specs.Fixed.{stands}

pub tree_view_out : (t : TreeValue) → tree_view t ≡ Node (out-Tree t).class (to_cells (map cell_view (out-Tree t).cells.items))
tree_view_out t = fold_out-Tree Cell Tree see_cell see_tree t

cells_nodes-push : (cs : List Cell) (c : Cell) → cells_nodes (to_cells (cs ++ c ∷ [])) ≡ cells_nodes (to_cells cs) + cell_nodes c
cells_nodes-push [] c = omega arith
cells_nodes-push (x ∷ xs) c = omega (arith, cells_nodes-push xs c)

trees_nodes-push : (ts : List Tree) (t : Tree) → trees_nodes (to_trees (ts ++ t ∷ [])) ≡ trees_nodes (to_trees ts) + nodes t
trees_nodes-push [] t = omega arith
trees_nodes-push (x ∷ xs) t = omega (arith, trees_nodes-push xs t)

cells_depth-push : (cs : List Cell) (c : Cell) → cells_depth (to_cells (cs ++ c ∷ [])) ≡ max (cells_depth (to_cells cs)) (cell_depth c)
cells_depth-push [] c = omega arith
cells_depth-push (x ∷ xs) c = omega (arith, cells_depth-push xs c)

trees_depth-push : (ts : List Tree) (t : Tree) → trees_depth (to_trees (ts ++ t ∷ [])) ≡ max (trees_depth (to_trees ts)) (depth t)
trees_depth-push [] t = omega arith
trees_depth-push (x ∷ xs) t = omega (arith, trees_depth-push xs t)

more : {X A : Type 0} (v : X → A) (xs : List X) (i : ℕ) (x : X) → i < length xs → x ≡ get_or xs i x → map v (take (i + 1) xs) ≡ map v (take i xs) ++ v x ∷ []
more v xs i x less is = map_more v xs i x less ∙ ap (λ y. map v (take i xs) ++ v y ∷ []) (sym is)

pub cells_nodes-more : (xs : List CellValue) (i : ℕ) (x : CellValue) → i < length xs → x ≡ get_or xs i x → cells_nodes (to_cells (map cell_view (take (i + 1) xs))) ≡ cells_nodes (to_cells (map cell_view (take i xs))) + cell_nodes (cell_view x)
cells_nodes-more xs i x less is = ap (λ cs. cells_nodes (to_cells cs)) (more cell_view xs i x less is) ∙ cells_nodes-push (map cell_view (take i xs)) (cell_view x)

pub trees_nodes-more : (xs : List TreeValue) (i : ℕ) (x : TreeValue) → i < length xs → x ≡ get_or xs i x → trees_nodes (to_trees (map tree_view (take (i + 1) xs))) ≡ trees_nodes (to_trees (map tree_view (take i xs))) + nodes (tree_view x)
trees_nodes-more xs i x less is = ap (λ ts. trees_nodes (to_trees ts)) (more tree_view xs i x less is) ∙ trees_nodes-push (map tree_view (take i xs)) (tree_view x)

pub cells_depth-more : (xs : List CellValue) (i : ℕ) (x : CellValue) → i < length xs → x ≡ get_or xs i x → cells_depth (to_cells (map cell_view (take (i + 1) xs))) ≡ max (cells_depth (to_cells (map cell_view (take i xs)))) (cell_depth (cell_view x))
cells_depth-more xs i x less is = ap (λ cs. cells_depth (to_cells cs)) (more cell_view xs i x less is) ∙ cells_depth-push (map cell_view (take i xs)) (cell_view x)

pub trees_depth-more : (xs : List TreeValue) (i : ℕ) (x : TreeValue) → i < length xs → x ≡ get_or xs i x → trees_depth (to_trees (map tree_view (take (i + 1) xs))) ≡ max (trees_depth (to_trees (map tree_view (take i xs)))) (depth (tree_view x))
trees_depth-more xs i x less is = ap (λ ts. trees_depth (to_trees ts)) (more tree_view xs i x less is) ∙ trees_depth-push (map tree_view (take i xs)) (tree_view x)

pub nodes-whole : (t : TreeValue) (xs : List CellValue) (i : ℕ) → length xs ≤ i → xs ≡ (out-Tree t).cells.items → nodes (tree_view t) ≡ 1 + cells_nodes (to_cells (map cell_view (take i xs)))
nodes-whole t xs i most is = ap nodes (tree_view_out t) ∙ ap (λ ys. 1 + cells_nodes (to_cells (map cell_view ys))) (sym (take_all i xs most ∙ is))

pub depth-whole : (t : TreeValue) (xs : List CellValue) (i : ℕ) → length xs ≤ i → xs ≡ (out-Tree t).cells.items → depth (tree_view t) ≡ 1 + cells_depth (to_cells (map cell_view (take i xs)))
depth-whole t xs i most is = ap depth (tree_view_out t) ∙ ap (λ ys. 1 + cells_depth (to_cells (map cell_view ys))) (sym (take_all i xs most ∙ is))

-- conforming --------------------------------------------------------------------------------------------------------

-- what is left of the cells conforms to what is left of the components, and what is fixed there stands in it
abbrev pub rest_fits : Classes → List CellValue → List Part → ℕ → Bool
rest_fits classes xs ps i =
    cells_conform classes (to_cells (map cell_view (drop i xs))) (map part_view (drop i ps)) && fixed_stand (map part_view (drop i ps)) (to_cells (map cell_view (drop i xs)))

abbrev pub fits_here : Classes → Cell → Component → Bool
fits_here classes c p = cell_conforms classes c p.shape && stands p c

both_here : (a b r s : Bool) → ((a && r) && (b && s)) ≡ ((a && b) && (r && s))
both_here true true r s = refl
both_here true false r s = and_false r
both_here false b r s = refl

-- the one at that position, and those behind it
pub here : {A : Type 0} (xs : List A) (i : ℕ) (x : A) → i < length xs → x ≡ get_or xs i x → drop i xs ≡ x ∷ drop (i + 1) xs
here xs i x less is = rw (add-one) (drop-cons xs i x less ∙ ap (λ y. y ∷ drop (suc i) xs) (sym is))

pub rest_fits-here : (classes : Classes) (xs : List CellValue) (ps : List Part) (i : ℕ) (x : CellValue) (p : Part) → i < length xs → i < length ps → x ≡ get_or xs i x → p ≡ get_or ps i p
    → rest_fits classes xs ps i ≡ (fits_here classes (cell_view x) (part_view p) && rest_fits classes xs ps (i + 1))
rest_fits-here classes xs ps i x p less there is same =
    let fit : List CellValue → List Part → Bool = λ ys qs. cells_conform classes (to_cells (map cell_view ys)) (map part_view qs) && fixed_stand (map part_view qs) (to_cells (map cell_view ys)) in
    ap (λ ys. fit ys (drop i ps)) (here xs i x less is) ∙ ap (fit (x ∷ drop (i + 1) xs)) (here ps i p there same)
    ∙ both_here (cell_conforms classes (cell_view x) (part_view p).shape) (stands (part_view p) (cell_view x))
    (cells_conform classes (to_cells (map cell_view (drop (i + 1) xs))) (map part_view (drop (i + 1) ps))) (fixed_stand (map part_view (drop (i + 1) ps)) (to_cells (map cell_view (drop (i + 1) xs))))

pub rest_fits-end : (classes : Classes) (xs : List CellValue) (ps : List Part) (i : ℕ) → length xs ≤ i → length ps ≤ i → rest_fits classes xs ps i ≡ true
rest_fits-end classes xs ps i most past = rw (drop_all i xs most, drop_all i ps past) refl

-- other numbers of cells and components
cells_conform-lengths : (classes : Classes) (cs : List Cell) (ps : List Component) → (length ps ≡ length cs → ⊥) → cells_conform classes (to_cells cs) ps ≡ false
cells_conform-lengths classes [] [] other = absurd (other refl)
cells_conform-lengths classes [] (p ∷ ps) other = refl
cells_conform-lengths classes (c ∷ cs) [] other = refl
cells_conform-lengths classes (c ∷ cs) (p ∷ ps) other =
    ap (λ b. cell_conforms classes c p.shape && b) (cells_conform-lengths classes cs ps (λ e. other (ap suc e))) ∙ none (cell_conforms classes c p.shape)
  where
    none : (b : Bool) → (b && false) ≡ false
    none true = refl
    none false = refl

pub conforms-whole : (classes : Classes) (t : TreeValue) (b : ℕ) (xs : List CellValue) (ps : List Part) → xs ≡ (out-Tree t).cells.items → map part_view ps ≡ parts classes (out-Tree t).class
    → conforms classes (tree_view t) b ≡ (fits classes (out-Tree t).class b && rest_fits classes xs ps 0)
conforms-whole classes t b xs ps is same =
    let fit = fits classes (out-Tree t).class b in
    let below : Cells → List Component → Bool = λ cs qs. fit && (cells_conform classes cs qs && fixed_stand qs cs) in
    ap (λ u. conforms classes u b) (tree_view_out t)
    ∙ ap (λ ys. below (to_cells (map cell_view ys)) (parts classes (out-Tree t).class)) (sym is)
    ∙ ap (below (to_cells (map cell_view xs))) (sym same)

-- a node that doesn't conform below its class
pub misfit-whole : (classes : Classes) (t : TreeValue) (b : ℕ) (xs : List CellValue) (ps : List Part) → xs ≡ (out-Tree t).cells.items → map part_view ps ≡ parts classes (out-Tree t).class
    → rest_fits classes xs ps 0 ≡ false → conforms classes (tree_view t) b ≡ false
misfit-whole classes t b xs ps is same off = conforms-whole classes t b xs ps is same ∙ and_off (fits classes (out-Tree t).class b) _ off

-- other numbers of cells and components
pub rest_fits-lengths : (classes : Classes) (xs : List CellValue) (ps : List Part) → (length ps ≡ length xs → ⊥) → rest_fits classes xs ps 0 ≡ false
rest_fits-lengths classes xs ps other =
    ap (λ b. b && fixed_stand (map part_view ps) (to_cells (map cell_view xs)))
    (cells_conform-lengths classes (map cell_view xs) (map part_view ps) (λ e. other (sym (length-map ps part_view) ∙ e ∙ length-map xs cell_view)))

-- one cell doesn't fit
pub rest_fits-not : (classes : Classes) (xs : List CellValue) (ps : List Part) (i : ℕ) (x : CellValue) (p : Part) → i < length xs → i < length ps → x ≡ get_or xs i x → p ≡ get_or ps i p
    → rest_fits classes xs ps 0 ≡ rest_fits classes xs ps i → fits_here classes (cell_view x) (part_view p) ≡ false → rest_fits classes xs ps 0 ≡ false
rest_fits-not classes xs ps i x p less there is same so_far off =
    so_far ∙ rest_fits-here classes xs ps i x p less there is same ∙ ap (λ b. b && rest_fits classes xs ps (i + 1)) off

abbrev pub rest_of_trees : Classes → List TreeValue → ℕ → ℕ → Bool
rest_of_trees classes xs b i = trees_conform classes (to_trees (map tree_view (drop i xs))) b
