-- Loops over terms, as they are looked through and as their tree is made.
use Rattle.std.proofs.Common.{◌≡◌, ℕ, ◌+◌, ◌<◌, ◌≤◌, List, [], ◌∷◌, ◌++◌, length, drop, get_or, map, refl, ap, sym, ◌∙◌, add-one, arith, is_some, suc, Option, Some, None}
use Rattle.std.proofs.Math.Seq.{drop-cons}
use Rattle.std.proofs.lemmas.List.{drop_all, length-drop}
use Rattle.std.proofs.lemmas.Option.{same_Some}
use Rattle.std.specs.Prelude.{Bool, true, false, ◌&&◌, if◌then◌else◌}
use Rattle.std.specs.Option.{option_map, option_and_then}
use Rattle.at_model.specs.Classes.{Classes, Component, fits, free, parts, class_of_name}
use Rattle.at_model.specs.Terms.{Term, Cell as ModelCell, Cells as ModelCells, Node as TermNode, cell as model_cell, no_cells as no_model_cells}
use Rattle.at_model.specs.Trees.{Tree, Cell, Cells, Trees, Node, no_cells, cell, no_trees, tree, to_trees, to_cells as to_tree_cells, cell_conforms}
use Rattle.at_model.proofs.Options.{if_some}
use Rattle.at_class.specs.declared.part.Part.{Part}
use Rattle.at_class.specs.View.{part_view}
use Rattle.at_tree.specs.View.{see_term, see_cell, term_view, cell_view, to_cells, to_terms}
use Rattle.at_tree.specs.declared.term.Term.{Term as TermValue, out-Term}
use Rattle.at_tree.specs.declared.term.TermCell.{TermCell as CellValue}
use Rattle.at_tree.specs.declared.term.TermCell.TheFolds.{fold_out-Term}
use Rattle.std.specs.Prelude.{string_bytes}
use Rattle.at_tree.specs.declared.tree.shaping.ShapeFault.{ShapeFault}
use Rattle.at_tree.specs.declared.tree.shaping.ShapeFault.TheVariants.{Class, Fit, Memory}
use Rattle.at_model.specs.Shaping.{names_classes, names_concrete_class, cells_name_classes, cell_names_classes, terms_name_classes, fixed_fit, planted, shaped, cells_shaped, cell_shaped, terms_shaped}
use Rattle.at_tree.specs.Shape.{IsNoneAtFit, fixed_shaped, parts_shaped}
use Rattle.at_tree.proofs.TreeLoops.{here}

pub term_view_is : (t : TermValue) → term_view t ≡ TermNode (string_bytes (out-Term t).name) (to_cells (map cell_view (out-Term t).cells.items))
term_view_is t = fold_out-Term ModelCell Term see_cell see_term t

-- names ---------------------------------------------------------------------------------------------------------------

abbrev pub cells_known_from : Classes → List CellValue → ℕ → Bool
cells_known_from classes xs i = cells_name_classes classes (to_cells (map cell_view (drop i xs)))

abbrev pub terms_known_from : Classes → List TermValue → ℕ → Bool
terms_known_from classes xs i = terms_name_classes classes (to_terms (map term_view (drop i xs)))

-- trees ---------------------------------------------------------------------------------------------------------------

-- these cells, and then those
abbrev pub onto_cells : List Cell → Cells → Cells
onto_cells [] rest = rest
onto_cells (c ∷ cs) rest = cell c (onto_cells cs rest)

abbrev pub onto_trees : List Tree → Trees → Trees
onto_trees [] rest = rest
onto_trees (t ∷ ts) rest = tree t (onto_trees ts rest)

onto_cells-push : (cs : List Cell) (c : Cell) (rest : Cells) → onto_cells (cs ++ c ∷ []) rest ≡ onto_cells cs (cell c rest)
onto_cells-push [] c rest = refl
onto_cells-push (x ∷ xs) c rest = ap (cell x) (onto_cells-push xs c rest)

onto_trees-push : (ts : List Tree) (t : Tree) (rest : Trees) → onto_trees (ts ++ t ∷ []) rest ≡ onto_trees ts (tree t rest)
onto_trees-push [] t rest = refl
onto_trees-push (x ∷ xs) t rest = ap (tree x) (onto_trees-push xs t rest)

onto_cells-none : (cs : List Cell) → onto_cells cs no_cells ≡ to_tree_cells cs
onto_cells-none [] = refl
onto_cells-none (x ∷ xs) = ap (cell x) (onto_cells-none xs)

onto_trees-none : (ts : List Tree) → onto_trees ts no_trees ≡ to_trees ts
onto_trees-none [] = refl
onto_trees-none (x ∷ xs) = ap (tree x) (onto_trees-none xs)

-- what components hold, one by one ------------------------------------------------------------------------------------

module _ (classes : Classes) where
  -- of the first component this is fixed, or nothing is
  abbrev first_part : ModelCells → Component → List Component → Option Cell → Option Cells
  first_part cs p ps o =
      if elim o as (λ _. Bool) [ None ↦ true | Some d ↦ cell_conforms classes d p.shape ] && fixed_fit classes ps
      then option_map (λ ds. elim o as (λ _. Cells) [
        | Some d ↦ cell d (planted ps ds)
        | None ↦ elim ds [ no_cells ↦ no_cells | cell d rest ↦ cell d (planted ps rest) ]
      ]) (cells_shaped classes cs (if is_some o then free ps else p ∷ free ps)) else None

  behind_fixed : (d : Cell) (ps : List Component) (b : Bool) (o : Option Cells)
      → (if b then option_map (λ ds. cell d (planted ps ds)) o else None) ≡ option_map (cell d) (if b then option_map (planted ps) o else None)
  behind_fixed d ps true None = refl
  behind_fixed d ps true (Some ds) = refl
  behind_fixed d ps false o = refl

  behind_written : (ps : List Component) (b : Bool) (y : Option Cell) (o : Option Cells)
      → (if b then option_map (λ ds. elim ds as (λ _. Cells) [ no_cells ↦ no_cells | cell d rest ↦ cell d (planted ps rest) ]) (option_and_then (λ d. option_map (cell d) o) y) else None)
      ≡ option_and_then (λ d. option_map (cell d) (if b then option_map (planted ps) o else None)) y
  behind_written ps true None o = refl
  behind_written ps true (Some d) None = refl
  behind_written ps true (Some d) (Some ds) = refl
  behind_written ps false None o = refl
  behind_written ps false (Some d) o = refl

  off_none : (b : Bool) (o : Option Cells) → b ≡ false → (if b then o else None) ≡ None
  off_none true o e = absurd cc
  off_none false o e = refl

  no_more : (b : Bool) (f : Cells → Cells) → (if b then option_map f None else None) ≡ None
  no_more true f = refl
  no_more false f = refl

  pub with_fixed : (cs : ModelCells) (p : Component) (ps : List Component) (d : Cell) → p.fixed ≡ Some d → cell_conforms classes d p.shape ≡ true
      → parts_shaped classes cs (p ∷ ps) ≡ option_map (cell d) (parts_shaped classes cs ps)
  with_fixed cs p ps d is fit =
      ap (first_part cs p ps) is
      ∙ ap (λ (b : Bool). if b && fixed_fit classes ps then option_map (λ ds. cell d (planted ps ds)) (cells_shaped classes cs (free ps)) else None) fit
      ∙ behind_fixed d ps (fixed_fit classes ps) (cells_shaped classes cs (free ps))

  pub with_misfit : (cs : ModelCells) (p : Component) (ps : List Component) (d : Cell) → p.fixed ≡ Some d → cell_conforms classes d p.shape ≡ false
      → parts_shaped classes cs (p ∷ ps) ≡ None
  with_misfit cs p ps d is off = ap (first_part cs p ps) is ∙ off_none _ _ (ap (λ b. b && fixed_fit classes ps) off)

  pub with_written : (c : ModelCell) (cs : ModelCells) (p : Component) (ps : List Component) → p.fixed ≡ None
      → parts_shaped classes (model_cell c cs) (p ∷ ps) ≡ option_and_then (λ d. option_map (cell d) (parts_shaped classes cs ps)) (cell_shaped classes c p.shape)
  with_written c cs p ps is = ap (first_part (model_cell c cs) p ps) is ∙ behind_written ps (fixed_fit classes ps) (cell_shaped classes c p.shape) (cells_shaped classes cs (free ps))

  pub with_nothing : (p : Component) (ps : List Component) → p.fixed ≡ None → parts_shaped classes no_model_cells (p ∷ ps) ≡ None
  with_nothing p ps is = ap (first_part no_model_cells p ps) is ∙ no_more (fixed_fit classes ps) (λ ds. elim ds as (λ _. Cells) [ no_cells ↦ no_cells | cell d rest ↦ cell d (planted ps rest) ])

-- what is left of a term's cells, and of the components ---------------------------------------------------------------

abbrev pub parts_from : Classes → List CellValue → List Part → ℕ → ℕ → Option Cells
parts_from classes xs ps k i = parts_shaped classes (to_cells (map cell_view (drop k xs))) (map part_view (drop i ps))

both_cells : (cs : List Cell) (y : Cell) (o : Option Cells) → option_map (onto_cells cs) (option_map (cell y) o) ≡ option_map (onto_cells (cs ++ y ∷ [])) o
both_cells cs y None = refl
both_cells cs y (Some rest) = ap Some (sym (onto_cells-push cs y rest))

fixed_led : (classes : Classes) (d : Cell) (p : Component) (y : Cell) → fixed_shaped classes d p.shape ≡ Some y → (cell_conforms classes d p.shape ≡ true) × (d ≡ y)
fixed_led classes d p y e = let (fit, same) = if_some (cell_conforms classes d p.shape) (Some d) y e in (fit, same_Some d y same)

-- one more that is fixed
pub fixed_from-more : (classes : Classes) (xs : List CellValue) (ps : List Part) (k i : ℕ) (p : Part) (d : Cell) (done : List Cell) (y : Cell) (all : Option Cells) → i < length ps
    → p ≡ get_or ps i p → (part_view p).fixed ≡ Some d
    → fixed_shaped classes d (part_view p).shape ≡ Some y → all ≡ option_map (onto_cells done) (parts_from classes xs ps k i)
    → all ≡ option_map (onto_cells (done ++ y ∷ [])) (parts_from classes xs ps k (i + 1))
fixed_from-more classes xs ps k i p d done y all less is fixed shape so_far =
    let cs = to_cells (map cell_view (drop k xs)) in
    let (fit, same) = fixed_led classes d (part_view p) y shape in
    so_far ∙ ap (λ qs. option_map (onto_cells done) (parts_shaped classes cs (map part_view qs))) (here ps i p less is)
    ∙ ap (option_map (onto_cells done)) (with_fixed classes cs (part_view p) (map part_view (drop (i + 1) ps)) d fixed fit ∙ ap (λ z. option_map (cell z) (parts_from classes xs ps k (i + 1))) same)
    ∙ both_cells done y (parts_from classes xs ps k (i + 1))

-- what is fixed doesn't fit
pub fixed_from-none : (classes : Classes) (xs : List CellValue) (ps : List Part) (k i : ℕ) (p : Part) (d : Cell) (done : List Cell) (all : Option Cells) → i < length ps → p ≡ get_or ps i p
    → (part_view p).fixed ≡ Some d
    → fixed_shaped classes d (part_view p).shape ≡ None → all ≡ option_map (onto_cells done) (parts_from classes xs ps k i) → all ≡ None
fixed_from-none classes xs ps k i p d done all less is fixed shape so_far =
    let cs = to_cells (map cell_view (drop k xs)) in
    so_far ∙ ap (λ qs. option_map (onto_cells done) (parts_shaped classes cs (map part_view qs))) (here ps i p less is)
    ∙ ap (option_map (onto_cells done)) (with_misfit classes cs (part_view p) (map part_view (drop (i + 1) ps)) d fixed (misfit (cell_conforms classes d (part_view p).shape) shape))
  where
    misfit : (b : Bool) → (if b then Some d else None) ≡ None → b ≡ false
    misfit true e = absurd cc
    misfit false e = refl

next_written : (classes : Classes) (xs : List CellValue) (ps : List Part) (k i : ℕ) (x : CellValue) (p : Part) → k < length xs → i < length ps → x ≡ get_or xs k x → p ≡ get_or ps i p
    → (part_view p).fixed ≡ None
    → parts_from classes xs ps k i ≡ option_and_then (λ z. option_map (cell z) (parts_from classes xs ps (k + 1) (i + 1))) (cell_shaped classes (cell_view x) (part_view p).shape)
next_written classes xs ps k i x p less there is same free =
    ap (λ qs. parts_shaped classes (to_cells (map cell_view (drop k xs))) (map part_view qs)) (here ps i p there same)
    ∙ ap (λ ys. parts_shaped classes (to_cells (map cell_view ys)) (map part_view (p ∷ drop (i + 1) ps))) (here xs k x less is)
    ∙ with_written classes (cell_view x) (to_cells (map cell_view (drop (k + 1) xs))) (part_view p) (map part_view (drop (i + 1) ps)) free

-- one more that is written
pub written_from-more : (classes : Classes) (xs : List CellValue) (ps : List Part) (k i : ℕ) (x : CellValue) (p : Part) (done : List Cell) (y : Cell) (all : Option Cells) → k < length xs
    → i < length ps → x ≡ get_or xs k x → p ≡ get_or ps i p
    → (part_view p).fixed ≡ None → cell_shaped classes (cell_view x) (part_view p).shape ≡ Some y → all ≡ option_map (onto_cells done) (parts_from classes xs ps k i)
    → all ≡ option_map (onto_cells (done ++ y ∷ [])) (parts_from classes xs ps (k + 1) (i + 1))
written_from-more classes xs ps k i x p done y all less there is same free shape so_far =
    so_far ∙ ap (option_map (onto_cells done)) (next_written classes xs ps k i x p less there is same free ∙ ap (option_and_then (λ z. option_map (cell z) (parts_from classes xs ps (k + 1) (i + 1)))) shape)
    ∙ both_cells done y (parts_from classes xs ps (k + 1) (i + 1))

-- one doesn't fit
pub written_from-none : (classes : Classes) (xs : List CellValue) (ps : List Part) (k i : ℕ) (x : CellValue) (p : Part) (done : List Cell) (all : Option Cells) → k < length xs → i < length ps
    → x ≡ get_or xs k x → p ≡ get_or ps i p
    → (part_view p).fixed ≡ None → cell_shaped classes (cell_view x) (part_view p).shape ≡ None → all ≡ option_map (onto_cells done) (parts_from classes xs ps k i) → all ≡ None
written_from-none classes xs ps k i x p done all less there is same free shape so_far =
    so_far ∙ ap (option_map (onto_cells done)) (next_written classes xs ps k i x p less there is same free ∙ ap (option_and_then (λ z. option_map (cell z) (parts_from classes xs ps (k + 1) (i + 1)))) shape)

-- one isn't written
pub parts_from-short : (classes : Classes) (xs : List CellValue) (ps : List Part) (k i : ℕ) (p : Part) (done : List Cell) (all : Option Cells) → length xs ≤ k → i < length ps
    → p ≡ get_or ps i p → (part_view p).fixed ≡ None
    → all ≡ option_map (onto_cells done) (parts_from classes xs ps k i) → all ≡ None
parts_from-short classes xs ps k i p done all past there same free so_far =
    so_far ∙ ap (option_map (onto_cells done)) (
    ap (λ qs. parts_shaped classes (to_cells (map cell_view (drop k xs))) (map part_view qs)) (here ps i p there same)
    ∙ ap (λ ys. parts_shaped classes (to_cells (map cell_view ys)) (map part_view (p ∷ drop (i + 1) ps))) (drop_all k xs past)
    ∙ with_nothing classes (part_view p) (map part_view (drop (i + 1) ps)) free
    )

-- too many are written
pub parts_from-long : (classes : Classes) (xs : List CellValue) (ps : List Part) (k i : ℕ) (done : List Cell) (all : Option Cells) → k < length xs → length ps ≤ i
    → all ≡ option_map (onto_cells done) (parts_from classes xs ps k i) → all ≡ None
parts_from-long classes xs ps k i done all less past so_far =
    so_far ∙ ap (λ qs. option_map (onto_cells done) (parts_shaped classes (to_cells (map cell_view (drop k xs))) (map part_view qs))) (drop_all i ps past) ∙ left_over (drop k xs) (omega (arith, less, length-drop k xs))
  where
    left_over : (ys : List CellValue) → 0 < length ys → option_map (onto_cells done) (parts_shaped classes (to_cells (map cell_view ys)) []) ≡ None
    left_over [] some = absurd (omega (arith, some))
    left_over (y ∷ ys) some = refl

pub parts_from-end : (classes : Classes) (xs : List CellValue) (ps : List Part) (k i : ℕ) (done : List Cell) (all : Option Cells) → length xs ≤ k → length ps ≤ i
    → all ≡ option_map (onto_cells done) (parts_from classes xs ps k i) → all ≡ Some (to_tree_cells done)
parts_from-end classes xs ps k i done all most past so_far =
    so_far ∙ rw (drop_all k xs most, drop_all i ps past) (ap Some (onto_cells-none done))

-- a node of the class, where it fits
abbrev node_of : Classes → ℕ → Bool → List Component → ModelCells → Option Tree
node_of classes k fit qs cs = if fit && fixed_fit classes qs then option_map (λ ds. Node k (planted qs ds)) (cells_shaped classes cs (free qs)) else None

node_of-parts : (classes : Classes) (k : ℕ) (qs : List Component) (cs : ModelCells) → node_of classes k true qs cs ≡ option_map (Node k) (parts_shaped classes cs qs)
node_of-parts classes k qs cs = by_fit (fixed_fit classes qs) (cells_shaped classes cs (free qs))
  where
    by_fit : (f : Bool) (o : Option Cells) → (if f then option_map (λ ds. Node k (planted qs ds)) o else None) ≡ option_map (Node k) (if f then option_map (planted qs) o else None)
    by_fit true None = refl
    by_fit true (Some ds) = refl
    by_fit false o = refl

-- the whole, from its class and its cells
pub shaped-whole : (classes : Classes) (t : TermValue) (b c : ℕ) (xs : List CellValue) (ps : List Part) → xs ≡ (out-Term t).cells.items → class_of_name classes (string_bytes (out-Term t).name) ≡ Some c → map part_view ps ≡ parts classes c → fits classes c b ≡ true
    → shaped classes (term_view t) b ≡ option_map (Node c) (parts_shaped classes (to_cells (map cell_view xs)) (map part_view ps))
shaped-whole classes t b c xs ps is named same fit =
    let cs = to_cells (map cell_view (out-Term t).cells.items) in
    ap (λ u. shaped classes u b) (term_view_is t)
    ∙ ap (option_and_then (λ k. node_of classes k (fits classes k b) (parts classes k) cs)) named
    ∙ ap (λ f. node_of classes c f (parts classes c) cs) fit
    ∙ node_of-parts classes c (parts classes c) cs
    ∙ ap (λ ys. option_map (Node c) (parts_shaped classes (to_cells (map cell_view ys)) (parts classes c))) (sym is)
    ∙ ap (λ qs. option_map (Node c) (parts_shaped classes (to_cells (map cell_view xs)) qs)) (sym same)

abbrev pub trees_from : Classes → List TermValue → ℕ → ℕ → Option Trees
trees_from classes xs b i = terms_shaped classes (to_terms (map term_view (drop i xs))) b

trees_from-here : (classes : Classes) (xs : List TermValue) (b i : ℕ) (x : TermValue) → i < length xs → x ≡ get_or xs i x → trees_from classes xs b i ≡ option_and_then (λ u. option_map (tree u) (trees_from classes xs b (i + 1))) (shaped classes (term_view x) b)
trees_from-here classes xs b i x less is = rw (drop-cons xs i x less, ← is, add-one) refl

both_trees : (ts : List Tree) (u : Tree) (o : Option Trees) → option_map (onto_trees ts) (option_map (tree u) o) ≡ option_map (onto_trees (ts ++ u ∷ [])) o
both_trees ts u None = refl
both_trees ts u (Some rest) = ap Some (sym (onto_trees-push ts u rest))

pub trees_from-more : (classes : Classes) (xs : List TermValue) (b i : ℕ) (x : TermValue) (done : List Tree) (u : Tree) (all : Option Trees) → i < length xs → x ≡ get_or xs i x
    → shaped classes (term_view x) b ≡ Some u → all ≡ option_map (onto_trees done) (trees_from classes xs b i) → all ≡ option_map (onto_trees (done ++ u ∷ [])) (trees_from classes xs b (i + 1))
trees_from-more classes xs b i x done u all less is shape so_far =
    so_far ∙ ap (option_map (onto_trees done)) (trees_from-here classes xs b i x less is ∙ ap (option_and_then (λ z. option_map (tree z) (trees_from classes xs b (i + 1)))) shape)
    ∙ both_trees done u (trees_from classes xs b (i + 1))

pub trees_from-end : (classes : Classes) (xs : List TermValue) (b i : ℕ) (done : List Tree) (all : Option Trees) → length xs ≤ i → all ≡ option_map (onto_trees done) (trees_from classes xs b i) → all ≡ Some (to_trees done)
trees_from-end classes xs b i done all most so_far = so_far ∙ rw (drop_all i xs most) (ap Some (onto_trees-none done))

-- a refusal that passes on another one
pub unfit_when : {A B : Type 0} (o : Option A) (p : Option B) (e : ShapeFault) → (o ≡ None → p ≡ None) → IsNoneAtFit o e → IsNoneAtFit p e
unfit_when o p Class to h = h
unfit_when o p Fit to h = to h
unfit_when o p Memory to h = h
