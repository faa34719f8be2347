-- The text of the tree below a number, from the texts of its cells and of the trees of a list.
use Rattle.std.proofs.Common.{◌≡◌, ℕ, ◌-◌, ◌<◌, ◌≤◌, List, [], ◌∷◌, ◌++◌, Option, length, take, map, refl, ap, sym, ◌∙◌, take_all}
use Rattle.at_model.specs.Classes.{Classes, Component, name_of, parts}
use Rattle.at_model.specs.Trees.{Tree, Many, to_cells, to_trees}
use Rattle.at_model.specs.Terms.{no_cells, with_commas, written, tree_text, cell_text, cell_texts, cell_of, cells_of, term_texts, terms_of}
use Rattle.at_tree.proofs.Unfixed.{first_unfixed, unfixed, written_texts}
use Rattle.at_store.specs.Grown.{grown_cell, shown_below}
use Rattle.at_store.specs.Memory.{Info, cells_in, class_in}
use Rattle.at_store.specs.View.{kept_view}
use Rattle.at_store.specs.declared.entry.Slot.{Slot}
use Rattle.at_store.proofs.of_planting.Copied.{level_above, no_level}

module _ (classes : Classes) (deeper : ℕ → Tree) where
  -- the text of a cell
  abbrev pub slot_text : Slot → List ℕ
  slot_text x = cell_text (cell_of classes (grown_cell deeper (kept_view x)))

  abbrev pub number_text : ℕ → List ℕ
  number_text k = tree_text classes (deeper k)

  -- the texts of the cells of a node so far that aren't fixed, these cells, and the trees of a list
  abbrev pub written_so_far : List Component → List Slot → ℕ → List (List ℕ)
  written_so_far ps xs i = first_unfixed ps slot_text xs i

  abbrev pub slots_so_far : List Component → List Slot → ℕ → List ℕ
  slots_so_far ps xs i = with_commas (written_so_far ps xs i)

  abbrev pub numbers_so_far : List ℕ → ℕ → List ℕ
  numbers_so_far ks i = with_commas (map number_text (take i ks))

  slot_texts : (xs : List Slot) → cell_texts (cells_of classes (to_cells (map (grown_cell deeper) (map kept_view xs)))) ≡ map slot_text xs
  slot_texts [] = refl
  slot_texts (x ∷ xs) = ap (λ ys. slot_text x ∷ ys) (slot_texts xs)

  number_texts : (ks : List ℕ) → term_texts (terms_of classes (to_trees (map deeper ks))) ≡ map number_text ks
  number_texts [] = refl
  number_texts (k ∷ ks) = ap (λ ys. number_text k ∷ ys) (number_texts ks)

  pub list_text : (ks : List ℕ) (i : ℕ) → length ks ≤ i → cell_text (cell_of classes (Many (to_trees (map deeper ks)))) ≡ 91 ∷ (numbers_so_far ks i ++ 93 ∷ [])
  list_text ks i most =
      ap (λ ts. 91 ∷ (with_commas ts ++ 93 ∷ [])) (number_texts ks)
      ∙ ap (λ js. 91 ∷ (with_commas (map number_text js) ++ 93 ∷ [])) (sym (take_all i ks most))

module _ (classes : Classes) (memory : ℕ → Option Info) where
  nothing_written : (ps : List Component) → written ps no_cells ≡ no_cells
  nothing_written [] = refl
  nothing_written (p ∷ ps) = refl

  pub text_at_no_level : (k : ℕ) → tree_text classes (shown_below memory 0 k) ≡ name_of classes (class_in memory k) ++ 40 ∷ 41 ∷ []
  text_at_no_level k =
      ap (tree_text classes) (no_level memory k)
      ∙ ap (λ cs. name_of classes (class_in memory k) ++ 40 ∷ (with_commas (cell_texts cs) ++ 41 ∷ [])) (nothing_written (parts classes (class_in memory k)))

  pub text_above : (levels k : ℕ) (xs : List Slot) (ps : List Component) (i : ℕ) → 0 < levels → length xs ≤ i → map kept_view xs ≡ cells_in (memory k)
      → ps ≡ parts classes (class_in memory k)
      → tree_text classes (shown_below memory levels k) ≡ name_of classes (class_in memory k) ++ 40 ∷ (slots_so_far classes (shown_below memory (levels - 1)) ps xs i ++ 41 ∷ [])
  text_above levels k xs ps i some most is all =
      let deeper = shown_below memory (levels - 1) in
      let around : List (List ℕ) → List ℕ = λ ts. name_of classes (class_in memory k) ++ 40 ∷ (with_commas ts ++ 41 ∷ []) in
      let cells = cells_of classes (to_cells (map (grown_cell deeper) (map kept_view xs))) in
      ap (tree_text classes) (level_above memory levels k some)
      ∙ ap (λ cs. around (cell_texts (written (parts classes (class_in memory k)) (cells_of classes (to_cells (map (grown_cell deeper) cs)))))) (sym is)
      ∙ ap (λ qs. around (cell_texts (written qs cells))) (sym all)
      ∙ ap around (written_texts ps cells ∙ ap (unfixed ps) (slot_texts classes deeper xs))
      ∙ ap (λ ys. around (unfixed ps (map (slot_text classes deeper) ys))) (sym (take_all i xs most))
